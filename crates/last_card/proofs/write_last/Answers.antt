use Prim.Native.Nat.{ℕ, ◌-◌}
use mathlib.Core.Path.{ap}
use Rattle.last_card.specs.LastLaws.{answers-last}
use Rattle.terms.specs.Buffers.{count_in}
use Rattle.last_card.proofs.write_last.Goals as goal

-- src/lib.rt:26:1
pub returns : goal.returns
returns c =
    let x = c.write_card-w in
    answers-last c.args.table.now c.args.terms.now c.args.runs.now _ (count_in c.args.terms.now - 1) c.args.marks.now c.args.out.now _ _ x.result _ (ap (λ (n : ℕ). n - 1) c.count-root.ensures.0) c.answer_of.ensures x.ensures
