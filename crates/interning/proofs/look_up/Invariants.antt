use Rattle.terms.specs.Buffers.{part}
use Rattle.interning.specs.ChainLaws.{Walking}
use Rattle.interning.proofs.look_up.Given as goal

abbrev pub invariant-loop-t : goal.invariant-loop-t
invariant-loop-t l = Walking l.terms l.runs l.h l.v (part l.list 0 l.n) l.t

abbrev pub decreases-loop-t : goal.decreases-loop-t
decreases-loop-t l = l.t
