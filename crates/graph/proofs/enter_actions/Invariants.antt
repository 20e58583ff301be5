use Rattle.enumeration.specs.Remaining.{list_from}
use Rattle.arrays.specs.Arrays.{pairs_in}
use Rattle.entering.specs.Growing.{Going}
use Rattle.graph.specs.JoinLaws.{pairs_of}
use Rattle.query.specs.Settings.{limits_of}
use Rattle.spec.specs.Action.{structural}
use Rattle.spec.specs.Graph.{enter_all}
use Rattle.spec.specs.Image.{tables_of}
use lib.ListN.{length}
use mathlib.Core.Path.{◌≡◌}
use Rattle.graph.proofs.enter_actions.Given as goal

abbrev pub invariant-loop-w : goal.invariant-loop-w
invariant-loop-w l = Going (limits_of l.lim) l.im.classes (enter_all (limits_of l.lim) (pairs_in l.im.classes l.initial.graph l.n0) (pairs_of (structural (tables_of l.s) l.l l.r))) (pairs_of (list_from (tables_of l.s) l.l l.r l.v)) l.n l.graph × (length l.graph ≡ length l.initial.graph)

abbrev pub decreases-loop-w : goal.decreases-loop-w
decreases-loop-w l = length (list_from (tables_of l.s) l.l l.r l.v)
