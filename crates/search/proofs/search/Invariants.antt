use Rattle.search_laws.specs.SearchLoop.{Searching, Ran}
use Rattle.search_laws.specs.Holds.{Ready}
use Rattle.search_laws.specs.Edges.{measure}
use Rattle.search.proofs.search.Given as goal

abbrev pub invariant-loop-net : goal.invariant-loop-net
invariant-loop-net l = ((R : Ready l.r l.c l.costs l.flow l.left) → Searching R l.net) × Ran l.costs l.flow l.left l.r l.c l.initial.net l.net

abbrev pub decreases-loop-net : goal.decreases-loop-net
decreases-loop-net l = measure l.r l.c l.net
