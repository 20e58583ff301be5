-- What laying out and solving a transport action leaves in the solver's buffers.
use Rattle.std.specs.Prelude.{◌≡◌, Bool, List, ℕ}
use Rattle.spec.specs.Bytes.{Two}
use Rattle.spec.specs.Monomial.{MonomialPair}
use Rattle.spec.specs.Transport.{solve_cells}
use Rattle.cost_matrix.specs.Matrix.{costs_after}
use Rattle.augment.specs.Solved.{is_plan, flow_after}
use Rattle.cells.specs.Problem.{problem_at}

-- What laying out and solving an action over m leaves, and whether there is a plan.
pub record Tried (q : Two → Two) (m : MonomialPair) (costs flow costs' flow' : List ℕ) (b : Bool) : Type 0 where
  pub costs_are : costs' ≡ costs_after (problem_at q m) costs
  pub flow_is : flow' ≡ flow_after (problem_at q m) flow
  pub is : b ≡ is_plan (solve_cells (problem_at q m))
