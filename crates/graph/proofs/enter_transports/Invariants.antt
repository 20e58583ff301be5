use Rattle.ac_monomials.specs.Transports.{actions_left}
use Rattle.ac_repr.specs.Walk.{Within}
use Rattle.arrays.specs.Arrays.{pairs_in}
use Rattle.entering.specs.Growing.{Going}
use Rattle.graph.specs.JoinLaws.{cells_of, walks_left}
use Rattle.query.specs.Settings.{limits_of}
use Rattle.spec.specs.Action.{transports}
use Rattle.spec.specs.Graph.{enter_all}
use Rattle.spec.specs.Image.{tables_of}
use lib.ListN.{length}
use mathlib.Core.Path.{◌≡◌}
use Rattle.graph.proofs.enter_transports.Given as goal

abbrev pub invariant-loop-x : goal.invariant-loop-x
invariant-loop-x l = Going (limits_of l.lim) l.im.classes (enter_all (limits_of l.lim) (pairs_in l.im.classes l.initial.graph l.n0) (cells_of (transports (tables_of l.s) l.l l.r))) (cells_of (actions_left (tables_of l.s) l.l l.r l.x)) l.n l.graph × Within (tables_of l.s) l.l l.r l.x × (length l.graph ≡ length l.initial.graph)

abbrev pub decreases-loop-x : goal.decreases-loop-x
decreases-loop-x l = walks_left (tables_of l.s) l.l l.r l.x
