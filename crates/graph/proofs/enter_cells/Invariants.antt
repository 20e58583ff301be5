use Prim.Native.Nat.{◌≤◌}
use Rattle.monomial_terms.specs.Terms.{held}
use Rattle.arrays.specs.Arrays.{pairs_in}
use Rattle.entering.specs.Growing.{Going}
use Rattle.graph.specs.JoinLaws.{cells_from}
use Rattle.query.specs.Settings.{limits_of}
use Rattle.spec.specs.Action.{cell_pairs}
use Rattle.spec.specs.Graph.{enter_all}
use Rattle.spec.specs.Monomial.{pair_of}
use lib.ListN.{length}
use mathlib.Core.Path.{◌≡◌}
use Rattle.graph.proofs.enter_cells.Given as goal

abbrev pub invariant-loop-i : goal.invariant-loop-i
invariant-loop-i l = (l.i ≤ l.rows) × Going (limits_of l.lim) l.w (enter_all (limits_of l.lim) (pairs_in l.w l.initial.graph l.n0) (cell_pairs (pair_of (held l.rows l.left) (held l.cols l.right)))) (cells_from l.rows l.left l.cols l.right l.i) l.n l.graph × (length l.graph ≡ length l.initial.graph)
