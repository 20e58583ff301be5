use Prim.Native.Nat.{◌≤◌}
use Rattle.actions.specs.Place.{action_at}
use Rattle.arrays.specs.Arrays.{pairs_in}
use Rattle.entering.specs.Growing.{Going}
use Rattle.query.specs.Settings.{limits_of}
use Rattle.spec.specs.Graph.{enter_all}
use Rattle.spec.specs.Image.{tables_of}
use lib.ListN.{drop, length}
use mathlib.Core.Path.{◌≡◌}
use Rattle.graph.proofs.enter_action.Given as goal

abbrev pub invariant-loop-k : goal.invariant-loop-k
invariant-loop-k l = (l.k ≤ l.many) × Going (limits_of l.lim) l.im.classes (enter_all (limits_of l.lim) (pairs_in l.im.classes l.initial.graph l.n0) (action_at (tables_of l.s) l.v).pairs) (drop l.k (action_at (tables_of l.s) l.v).pairs) l.n l.graph × (length l.graph ≡ length l.initial.graph)
