use Rattle.arrays.specs.Arrays.{quality_in}
use Rattle.cells.specs.Cells.{sides_of}
use Rattle.cells.specs.Problem.{problem_at}
use Rattle.plan_offer.specs.Sums.{Summed}
use Prim.Native.Nat.{◌≤◌, ◌-◌}
use lib.ListN.{length}
use Rattle.plan_offer.proofs.plan_totals.Given as goal

abbrev pub invariant-loop-k : goal.invariant-loop-k
invariant-loop-k l = (l.k ≤ length l.x) × Summed (problem_at (quality_in l.w l.graph l.pairs) (sides_of l.left l.rows l.right l.cols)).cells l.x l.k l.t
