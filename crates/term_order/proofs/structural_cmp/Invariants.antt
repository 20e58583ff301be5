use Rattle.term_order.specs.Steps.{Going}
use Rattle.term_order.proofs.structural_cmp.Given as goal

abbrev pub invariant-loop-c : goal.invariant-loop-c
invariant-loop-c l = Going l.terms l.runs l.x l.y l.a l.b

abbrev pub decreases-loop-c : goal.decreases-loop-c
decreases-loop-c l = l.a
