-- A problem whose cells are all allowed has a plan, where no side is empty and the totals are equal:
-- row i and column j share the overlap of their stretches, when supplies and demands are laid end to end.
use Rattle.std.specs.Prelude.{◌≡◌, refl, Bool, true, List, [], ◌∷◌, ℕ, zero, suc, ◌+◌, ◌-◌, ◌*◌, ◌/◌, ◌%◌, ◌≤◌, ◌<◌, min, max, get_or}
use Rattle.std.proofs.Common.{sym, ◌∙◌}
use Rattle.std.proofs.Math.Path.{ap}
use Rattle.std.proofs.Math.Option.{Option, none, some}
use Rattle.std.proofs.Math.Decide.{dec_le}
use native.Mathlib.Omega.{arith}
use Rattle.std.proofs.Math.Arith.{digits_lt, digits_div, digits_mod}
use Rattle.std.proofs.Math.ListN.{length}
use Rattle.spec.specs.Bytes.{sum_to, sum}
use Rattle.spec.specs.Meaning.{Plan}
use Rattle.spec.specs.Transport.{Problem, allowed, rows_of, cols_of, cell_at, supply_at, demand_at, moved, row_flow, col_flow, solve_cells}
use Rattle.laws.specs.Tests.{clash}
use Rattle.flow.specs.Sums.{sum-cong, sum-split, list_sum-is}
use Rattle.flow.specs.Network.{row_flow-is, col_flow-is}
use Rattle.flow.specs.Theorems.{refused-where}
use Rattle.cost_matrix.specs.Cells.{problem_of, cell-allowed}
use Rattle.augment.specs.Solved.{is_plan, Solves}

-- ---- a list by its entries
tab : ℕ → (ℕ → ℕ) → List ℕ
tab zero f = []
tab (suc n) f = f 0 ∷ tab n (λ k. f (suc k))

tab-length : (n : ℕ) (f : ℕ → ℕ) → length (tab n f) ≡ n
unfolding tab
tab-length zero f = refl
tab-length (suc n) f = ap suc (tab-length n (λ k. f (suc k)))

tab-at : (n : ℕ) (f : ℕ → ℕ) (k : ℕ) → k < n → get_or (tab n f) k 0 ≡ f k
unfolding tab
tab-at zero f k h = absurd (omega arith)
tab-at (suc n) f zero h = refl
tab-at (suc n) f (suc k) h = tab-at n (λ z. f (suc z)) k (omega arith)

-- ---- overlaps of the stretch from l to h with stretches laid end to end
ended : (h l s d : ℕ) → l ≤ h → min h s - l + (min h (s + d) - max l s) ≡ min h (s + d) - l
ended h l s d q = go (dec_le s l) (dec_le h s)
  where
    go : Dec (s ≤ l) → Dec (h ≤ s) → min h s - l + (min h (s + d) - max l s) ≡ min h (s + d) - l
    go (yes a) b = omega arith
    go (no a) (yes b) = omega arith
    go (no a) (no b) = omega arith

overlaps : (f : ℕ → ℕ) (l h : ℕ) → l ≤ h → (n : ℕ) → sum_to n (λ j. min h (sum_to (suc j) f) - max l (sum_to j f)) ≡ min h (sum_to n f) - l
unfolding sum_to
overlaps f l h q zero = omega arith
overlaps f l h q (suc n) = ap (λ (z : ℕ). z + (min h (sum_to n f + f n) - max l (sum_to n f))) (overlaps f l h q n) ∙ ended h l (sum_to n f) (f n) q

-- a stretch inside the whole overlaps in all its length
inside : (f : ℕ → ℕ) (i n t : ℕ) → i < n → sum_to n f ≡ t → min (sum_to (suc i) f) t - sum_to i f ≡ f i
unfolding sum_to
inside f i n t h e =
    let q : suc i + (n - suc i) ≡ n = omega arith in
    let s = sum-split (suc i) (n - suc i) f in
    let w : sum_to n f ≡ sum_to i f + f i + sum_to (n - suc i) (λ k. f (suc i + k)) = ap (λ (z : ℕ). sum_to z f) (sym q) ∙ s in
    omega (arith, w, e)

swapped : (a b c d : ℕ) → min a b - max c d ≡ min b a - max d c
swapped a b c d =
    let e : min a b ≡ min b a = omega arith in
    let f : max c d ≡ max d c = omega arith in
    rw (e, f) refl

module _ (p : Problem) (hr : 0 < rows_of p) (hc : 0 < cols_of p) (ev : sum p.supply ≡ sum p.demand) where
  abbrev shared : ℕ → ℕ → ℕ
  shared i j = min (sum_to (suc i) (λ k. supply_at p k)) (sum_to (suc j) (λ k. demand_at p k)) - max (sum_to i (λ k. supply_at p k)) (sum_to j (λ k. demand_at p k))

  abbrev spread : List ℕ
  spread = tab (rows_of p * cols_of p) (λ k. shared (k / cols_of p) (k % cols_of p))

  spread_at : (i j : ℕ) → i < rows_of p → j < cols_of p → moved p spread i j ≡ shared i j
  spread_at i j hi hj =
      tab-at (rows_of p * cols_of p) (λ k. shared (k / cols_of p) (k % cols_of p)) (i * cols_of p + j) (digits_lt hi hj)
      ∙ (λ z. shared (digits_div i hj z) (digits_mod i hj z))

  equal : sum_to (rows_of p) (λ k. supply_at p k) ≡ sum_to (cols_of p) (λ k. demand_at p k)
  equal = sym (list_sum-is p.supply) ∙ ev ∙ list_sum-is p.demand

  up : (f : ℕ → ℕ) (i : ℕ) → sum_to i f ≤ sum_to (suc i) f
  unfolding sum_to
  up f i = omega arith

  spread_row : (i : ℕ) → i < rows_of p → row_flow p spread i ≡ supply_at p i
  spread_row i hi =
      row_flow-is p spread i ∙ sum-cong (cols_of p) (λ j hj. spread_at i j hi hj)
      ∙ overlaps (λ k. demand_at p k) (sum_to i (λ k. supply_at p k)) (sum_to (suc i) (λ k. supply_at p k)) (up (λ k. supply_at p k) i) (cols_of p)
      ∙ inside (λ k. supply_at p k) i (rows_of p) (sum_to (cols_of p) (λ k. demand_at p k)) hi equal

  spread-column : (j : ℕ) → j < cols_of p → col_flow p spread j ≡ demand_at p j
  spread-column j hj =
      col_flow-is p spread j
      ∙ sum-cong (rows_of p) (λ i hi. spread_at i j hi hj ∙ swapped (sum_to (suc i) (λ k. supply_at p k)) (sum_to (suc j) (λ k. demand_at p k)) (sum_to i (λ k. supply_at p k)) (sum_to j (λ k. demand_at p k)))
      ∙ overlaps (λ k. supply_at p k) (sum_to j (λ k. demand_at p k)) (sum_to (suc j) (λ k. demand_at p k)) (up (λ k. demand_at p k) j) (rows_of p)
      ∙ inside (λ k. demand_at p k) j (cols_of p) (sum_to (rows_of p) (λ k. supply_at p k)) hj (sym equal)

  module _ (open-cells : (i j : ℕ) → i < rows_of p → j < cols_of p → allowed (cell_at p i j) ≡ true) where
    some-plan : Plan p spread
    some-plan = record {
      long = tab-length (rows_of p * cols_of p) (λ k. shared (k / cols_of p) (k % cols_of p));
      some_row = hr;
      some_column = hc;
      rows = spread_row;
      columns = spread-column;
      kept = λ i j hi hj e. absurd (clash (sym (open-cells i j hi hj) ∙ e));
    }

    pub has-plan : (x : List ℕ) × (solve_cells p ≡ some x)
    has-plan = go (solve_cells p) refl
      where
        go : (o : Option (List ℕ)) → solve_cells p ≡ o → (x : List ℕ) × (o ≡ some x)
        go none e = absurd (refused-where p e spread some-plan)
        go (some x) e = (x, refl)

-- ---- of slices: every flag is set
module _ (supply demand sizes masses flags : List ℕ) (long : length sizes ≡ length supply * length demand) (flagged : (k : ℕ) → k < length supply * length demand → get_or flags k 0 ≡ 0 → ⊥) where
  cell-open : (i j : ℕ) → i < length supply → j < length demand → allowed (cell_at (problem_of supply demand sizes masses flags) i j) ≡ true
  unfolding problem_of
  cell-open i j hi hj =
      let h : i * length demand + j < length supply * length demand = digits_lt hi hj in
      ap allowed (cell-allowed supply demand sizes masses flags (i * length demand + j) (rw long h) (flagged (i * length demand + j) h))

  pub always-plan : 0 < length supply → 0 < length demand → sum supply ≡ sum demand → (x : List ℕ) × (solve_cells (problem_of supply demand sizes masses flags) ≡ some x)
  unfolding problem_of
  always-plan hr hc ev = has-plan (problem_of supply demand sizes masses flags) hr hc ev cell-open

-- the solver's answer then
pub always-solves : (p : Problem) → 0 < rows_of p → 0 < cols_of p → sum p.supply ≡ sum p.demand → ((i j : ℕ) → i < rows_of p → j < cols_of p → allowed (cell_at p i j) ≡ true) → (flow flow' : List ℕ) (b : Bool) → Solves p flow flow' b → b ≡ true
always-solves p hr hc ev o flow flow' b S = let (x, e) = has-plan p hr hc ev o in S.is ∙ ap is_plan e
