-- The transports of a pair offered one after the other, as the code runs them: the two work buffers and the best so far.
use Rattle.std.specs.Prelude.{List, [], ◌∷◌, ◌++◌, ℕ, take, drop}
use Rattle.spec.specs.Bytes.{Two}
use Rattle.spec.specs.Monomial.{MonomialPair}
use Rattle.spec.specs.Transport.{solve_cells, plan_size, plan_mass}
use Rattle.spec.specs.Action.{TransportAction, cell_pairs}
use Rattle.spec.specs.Round.{plan_runs}
use Rattle.cost_matrix.specs.Matrix.{costs_after}
use Rattle.augment.specs.Solved.{flow_after}
use Rattle.quality.specs.declared.Best.{Best}
use Rattle.cells.specs.Problem.{problem_at}
use Rattle.plan_offer.specs.Plans.{best_after, list_after}

pub record Work : Type 0 where
  pub work : List ℕ
  pub flow : List ℕ
  pub best : Best

abbrev pub work_of : List ℕ → List ℕ → Best → Work
work_of work flow best = record { work = work; flow = flow; best = best }

-- the cost matrix laid from place c of the work buffer on
abbrev pub laid_at : ℕ → (Two → Two) → MonomialPair → List ℕ → List ℕ
laid_at c q m work = take c work ++ costs_after (problem_at q m) (drop c work)

-- the cost matrix is laid from place c on, the plan is at the front of `flow`, a better plan's runs are at the front of `work`
unfoldable pub offer_in : ℕ → (Two → Two) → (Two → ℕ) → TransportAction → Work → Work
unfolding cell_pairs costs_after flow_after plan_mass plan_runs plan_size solve_cells
offer_in c q of a w =
    work_of (list_after q of a (solve_cells (problem_at q a.sides)) w.best (laid_at c q a.sides w.work)) (flow_after (problem_at q a.sides) w.flow)
    (best_after q of a (solve_cells (problem_at q a.sides)) w.best)

unfoldable pub offers_in : ℕ → (Two → Two) → (Two → ℕ) → List TransportAction → Work → Work
unfolding offer_in
offers_in c q of [] w = w
offers_in c q of (a ∷ l) w = offers_in c q of l (offer_in c q of a w)
