use mathlib.Core.Bool.{not}
use Rattle.laws.specs.AcceptedTurns.{failed, passed}
use Rattle.image.specs.Loaded.{operations-many, classes-many}
use Rattle.laws.specs.AcceptedTurns.{all_go, all-stop, all_end}
use Rattle.spec.specs.Image.{operation_right, tables_of, the_operation}
use Prim.Native.Nat.{ℕ}
use native.Mathlib.Omega.{arith}
use mathlib.Core.Path.{refl, ap, sym, ◌∙◌}
use lib.ListN.{length}
use Rattle.operation_rules.proofs.operations_right.Goals as goal

pub loop-o-init : goal.loop-o-init
loop-o-init c = (omega arith, refl)

pub returns-then-not-operation_right : goal.returns-then-not-operation_right
returns-then-not-operation_right c =
    let s = c.args.s.now in
    let n = classes-many s c.args.im c.requires in
    sym (c.loop-o.invariant.1
    ∙ all-stop (operation_right (length (tables_of s).classes)) (tables_of s).operations c.loop-o.o _ (omega (arith, operations-many s c.args.im c.requires))
    (failed (c.operation_right.ensures ∙ ap (λ (k : ℕ). operation_right k (the_operation (tables_of s) c.loop-o.o)) (sym n)) (ap not c.if-not-operation_right.true)))

pub loop-o-preserved : goal.loop-o-preserved
loop-o-preserved c =
    let s = c.args.s.now in
    let n = classes-many s c.args.im c.requires in (
      omega arith,
      c.loop-o.invariant.1
          ∙ sym (all_go (operation_right (length (tables_of s).classes)) (tables_of s).operations c.loop-o.o _ (omega (arith, operations-many s c.args.im c.requires))
          (passed (c.operation_right.ensures ∙ ap (λ (k : ℕ). operation_right k (the_operation (tables_of s) c.loop-o.o)) (sym n)) (ap not c.if-not-operation_right.false))),
    )

pub returns : goal.returns
returns c =
    let s = c.args.s.now in
    sym (c.loop-o.invariant.1 ∙ all_end (operation_right (length (tables_of s).classes)) (tables_of s).operations c.loop-o.o (omega (arith, operations-many s c.args.im c.requires)))
