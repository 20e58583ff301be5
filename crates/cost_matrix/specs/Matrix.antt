-- The cost matrix laid out in a list of numbers: three numbers a cell, its cost's low word and high word, and its capacity; row by row.
use Rattle.std.specs.Prelude.{◌≡◌, List, ℕ, zero, suc, ◌+◌, ◌*◌, ◌/◌, ◌%◌, ◌<◌, min, get_or, set}
use Rattle.spec.specs.Bytes.{pick}
use Rattle.spec.specs.Transport.{Cell, forbidden, allowed, cell_cost, Problem, weight, rows_of, cols_of, cell_at, supply_at, demand_at, capacity, WIDEST}
use Rattle.wide.specs.declared.Wide.{Wide}
use Rattle.wide.specs.Wrap.{Natural}
use Rattle.flow.specs.Magnitude.{Small}
use Rattle.weights.specs.Words.{words_of}

-- the cells at most, and their numbers
abbrev pub CELLS : ℕ
CELLS = WIDEST * WIDEST

abbrev pub COSTS : ℕ
COSTS = 3 * CELLS

abbrev pub cost_of : List ℕ → ℕ → Wide
cost_of g k = record { lo = get_or g (3 * k) 0; hi = get_or g (3 * k + 1) 0 }

abbrev pub cap_of : List ℕ → ℕ → ℕ
cap_of g k = get_or g (3 * k + 2) 0

-- one cell's cost and capacity, three numbers
abbrev pub celled : List ℕ → ℕ → Wide → ℕ → List ℕ
celled g k d cap = set (set (set g (3 * k) d.lo) (3 * k + 1) d.hi) (3 * k + 2) cap

-- cell c as the matrix's cell k, of a row with supply s and a column with demand d: "a cell costs size × W + mass"; its capacity is the smaller margin, nothing where it is forbidden
abbrev pub laid_cell : ℕ → Cell → ℕ → ℕ → ℕ → List ℕ → List ℕ
laid_cell w c s d k g = celled g k (words_of (cell_cost w c)) (pick (allowed c) (min s d) 0)

-- n cells of the problem p from cell k on laid out in g
unfoldable pub laid_from : Problem → ℕ → ℕ → List ℕ → List ℕ
unfolding weight
laid_from p zero k g = g
laid_from p (suc n) k g = laid_from p n (k + 1) (laid_cell (weight p) (get_or p.cells k forbidden) (supply_at p (k / cols_of p)) (demand_at p (k % cols_of p)) k g)

-- the buffer afterwards: every cell's numbers from its front on; what stands behind is as it was
unfoldable pub costs_after : Problem → List ℕ → List ℕ
unfolding laid_from
costs_after p g = laid_from p (rows_of p * cols_of p) 0 g

-- g holds the costs and capacities of the cells of p
pub record CostsHold (p : Problem) (g : List ℕ) : Type 0 where
  pub costs : (i j : ℕ) → i < rows_of p → j < cols_of p → Natural (cost_of g (i * cols_of p + j)) (cell_cost (weight p) (cell_at p i j))
  pub caps : (i j : ℕ) → i < rows_of p → j < cols_of p → cap_of g (i * cols_of p + j) ≡ capacity p i j

-- the problem p is in place: its supplies, its demands and its cost matrix g
pub record Given (p : Problem) (supply demand g : List ℕ) : Type 0 where
  pub supply_is : p.supply ≡ supply
  pub demand_is : p.demand ≡ demand
  pub small : Small p
  pub costs : CostsHold p g

-- some problem is
pub record Laid (supply demand g : List ℕ) : Type 0 where
  pub p : Problem
  pub given : Given p supply demand g
