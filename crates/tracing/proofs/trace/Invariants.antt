use Rattle.tracing.proofs.Walks.{Walking}
use Rattle.tracing.proofs.trace.Given as goal

abbrev pub invariant-loop-v : goal.invariant-loop-v
invariant-loop-v l = Walking l.net l.t l.initial.path l.path l.at l.v

abbrev pub decreases-loop-v : goal.decreases-loop-v
decreases-loop-v l = l.at
