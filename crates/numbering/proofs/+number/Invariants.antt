use Rattle.numbering.specs.VisitLaws.{Visiting}
use Rattle.numbering.proofs.+number.Given as goal

abbrev pub decreases-number : goal.decreases-number
decreases-number l = l.t

abbrev pub invariant-loop-i : goal.invariant-loop-i
invariant-loop-i l = Visiting l.terms l.runs l.fn.marks l.n0 l.t l.end l.marks l.i l.n
