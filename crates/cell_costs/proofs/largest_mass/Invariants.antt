use Rattle.cost_matrix.specs.Laying.{LargestTo}
use Rattle.arrays.specs.Arrays.{quality_in}
use Rattle.cells.specs.Cells.{sides_of}
use Rattle.cells.specs.Problem.{problem_at}
use Prim.Native.Nat.{◌≤◌, ◌*◌}
use mathlib.Core.Path.{◌≡◌}
use Rattle.cell_costs.proofs.largest_mass.Given as goal

abbrev pub invariant-loop-k : goal.invariant-loop-k
invariant-loop-k l = (l.k ≤ l.count) × (l.count ≡ l.rows * l.cols) × LargestTo (problem_at (quality_in l.w l.graph l.pairs) (sides_of l.left l.rows l.right l.cols)) l.k l.v
