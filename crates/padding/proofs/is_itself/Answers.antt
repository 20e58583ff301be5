use Rattle.padding.proofs.Scans.{itself-length, itself-class, itself-count}
use Rattle.laws.specs.Tests.{clash}
use Rattle.std.proofs.Common.{sym, ◌∙◌, eqb-true}
use borrow.Author.Tests.{eq-eqb}
use Rattle.padding.proofs.is_itself.Goals as goal
use Rattle.padding.proofs.is_itself.Goals.{then-n-eq1, else-n-eq1}

pub returns-then-class_at-long_size : goal.returns-then-class_at-long_size
returns-then-class_at-long_size c =
    let z = c.if-class_at-long_size.true in
    elim c.if-n-eq1.branch [
      | then-n-eq1 w ↦ sym (itself-count c.args.mono.now c.args.n c.args.c c.requires.0 c.requires.1 w.class_at.result c.count_at.result w.if-n-eq1.true w.class_at.ensures
          (eqb-true w.class_at.result w.long_size.result (sym w.value-is ∙ z) ∙ w.long_size.ensures) c.count_at.ensures)
      | else-n-eq1 w ↦ absurd (w.if-n-eq1.false (eqb-true c.args.n 1 (sym w.value-is ∙ z)))
    ]

pub returns-else-class_at-long_size : goal.returns-else-class_at-long_size
returns-else-class_at-long_size c =
    let z = c.if-class_at-long_size.false in
    elim c.if-n-eq1.branch [
      | then-n-eq1 w ↦ z ∙ sym (itself-class c.args.mono.now c.args.n c.args.c c.requires.0 c.requires.1 w.class_at.result w.if-n-eq1.true w.class_at.ensures
          (λ e. clash (sym (eq-eqb w.class_at.result w.long_size.result (e ∙ sym w.long_size.ensures)) ∙ sym w.value-is ∙ z)))
      | else-n-eq1 w ↦ z ∙ sym (itself-length c.args.mono.now c.args.n c.args.c c.requires.0 c.requires.1 w.if-n-eq1.false)
    ]
