use Prim.Native.Nat.{◌≤◌}
use Rattle.arrays.specs.Arrays.{pairs_in}
use Rattle.entering.specs.Growing.{Going}
use Rattle.graph.specs.JoinLaws.{row_from}
use Rattle.query.specs.Settings.{limits_of}
use Rattle.spec.specs.Graph.{enter_all}
use lib.ListN.{length}
use mathlib.Core.Path.{◌≡◌}
use Rattle.graph.proofs.enter_row.Given as goal

abbrev pub invariant-loop-j : goal.invariant-loop-j
invariant-loop-j l = (l.j ≤ l.cols) × Going (limits_of l.lim) l.w (enter_all (limits_of l.lim) (pairs_in l.w l.initial.graph l.n0) (row_from l.l l.cols l.right 0)) (row_from l.l l.cols l.right l.j) l.n l.graph × (length l.graph ≡ length l.initial.graph)
