use Rattle.card_judge.specs.JudgeLaws.{Marking}
use Rattle.card_judge.proofs.mark_children.Given as goal

abbrev pub invariant-loop-i : goal.invariant-loop-i
invariant-loop-i l = Marking l.runs l.initial.marks l.from l.to l.marks l.i
