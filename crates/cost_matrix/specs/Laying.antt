-- Laying the cost matrix cell by cell, for whoever runs the loops: V, the largest mass, and W; then each cell. What is laid is in place for the solver.
use Rattle.std.specs.Prelude.{◌≡◌, ◌≢◌, List, map, get_or, set, drop}
use Rattle.std.proofs.Math.Path.{refl, sym, ap}
use Rattle.std.proofs.Common.{◌∙◌, zero-add, add-one, length-set, drop_of_length-le, get_or-set_same, get_or-set_other, drop-cons}
use Prim.Native.Nat.{ℕ, zero, suc, ◌+◌, ◌-◌, ◌*◌, ◌/◌, ◌%◌, ◌^◌, ◌≤◌, ◌<◌, min, max}
use Rattle.std.proofs.Math.Nat.{sub-zero}
use Rattle.std.proofs.Math.Decide.{ℕ_discrete}
use native.Mathlib.Omega.{arith}
use Rattle.std.proofs.Math.Arith.{digits_lt, digits_div, digits_mod}
use Rattle.std.proofs.Math.ListN.{length}
use Rattle.spec.specs.Bytes.{pick, sum}
use Rattle.spec.specs.Transport.{Cell, forbidden, allowed, mass_of, cell_cost, largest, Problem, weight, rows_of, cols_of, supply_at, demand_at}
use Rattle.wide.specs.declared.Wide.{Wide}
use Rattle.wide.specs.Wrap.{Natural}
use Rattle.flow.specs.Magnitude.{Small, cost-lt}
use Rattle.weights.specs.Words.{words_of}
use Rattle.cost_matrix.specs.Matrix.{cost_of, cap_of, celled, laid_cell, laid_from, costs_after, CostsHold, Given, Laid}

-- ---- V: v is the largest mass of the first k cells
abbrev pub LargestTo : Problem → ℕ → ℕ → Type 0
LargestTo p k v = max v (largest (map mass_of (drop k p.cells))) ≡ largest (map mass_of p.cells)

module _ (p : Problem) where
  pub largest-none : LargestTo p 0 0
  largest-none = omega arith

  pub largest-more : (k v : ℕ) → k < length p.cells → LargestTo p k v → (c : Cell) (v' : ℕ) → get_or p.cells k forbidden ≡ c → v' ≡ max v (mass_of c) → LargestTo p (k + 1) v'
  unfolding largest
  largest-more k v h L c v' e q =
      let z : max v (max (mass_of (get_or p.cells k forbidden)) (largest (map mass_of (drop (suc k) p.cells)))) ≡ largest (map mass_of p.cells) = rw (drop-cons p.cells k forbidden h) at L in
      let m : mass_of (get_or p.cells k forbidden) ≡ mass_of c = ap mass_of e in
      rw (add-one k) (omega (arith, z, m, q))

  pub largest-all : (k v : ℕ) → length p.cells ≤ k → LargestTo p k v → v ≡ largest (map mass_of p.cells)
  unfolding largest
  largest-all k v h L = let z : max v 0 ≡ largest (map mass_of p.cells) = rw (drop_of_length-le p.cells h) at L in omega (arith, z)

  -- "W = F × V + 1"
  pub weight-of : (f v w : ℕ) → f ≡ sum p.supply → v ≡ largest (map mass_of p.cells) → w ≡ f * v + 1 → w ≡ weight p
  unfolding weight
  weight-of f v w e q u = u ∙ (λ i. e i * q i + 1)

-- ---- the cells: the buffer was g₀, and k cells are laid
pub record Laying (p : Problem) (g₀ : List ℕ) (k : ℕ) (g : List ℕ) : Type 0 where
  pub size : length g ≡ length g₀
  pub rest : laid_from p (rows_of p * cols_of p - k) k g ≡ costs_after p g₀

pub celled-size : (g : List ℕ) (k : ℕ) (d : Wide) (cap : ℕ) → length (celled g k d cap) ≡ length g
celled-size g k d cap = simp length-set

module _ (p : Problem) (g₀ : List ℕ) where
  pub laying-none : Laying p g₀ 0 g₀
  unfolding costs_after
  laying-none = record { size = refl; rest = rw (sub-zero (rows_of p * cols_of p)) refl }

  module _ (k : ℕ) (g : List ℕ) (L : Laying p g₀ k g) where
    pub laying-more : k < rows_of p * cols_of p → (c : Cell) (w s d : ℕ) → get_or p.cells k forbidden ≡ c → w ≡ weight p → s ≡ supply_at p (k / cols_of p) → d ≡ demand_at p (k % cols_of p)
        → (g' : List ℕ) → g' ≡ laid_cell w c s d k g → Laying p g₀ (k + 1) g'
    unfolding laid_from
    laying-more h c w s d ec ew es ed g' e =
        let q : rows_of p * cols_of p - k ≡ suc (rows_of p * cols_of p - (k + 1)) = omega arith in
        let same : laid_cell (weight p) (get_or p.cells k forbidden) (supply_at p (k / cols_of p)) (demand_at p (k % cols_of p)) k g ≡ g' = (λ i. laid_cell (sym ew i) (ec i) (sym es i) (sym ed i) k g) ∙ sym e in
        record {
          size = ap length e ∙ celled-size g k (words_of (cell_cost w c)) (pick (allowed c) (min s d) 0) ∙ L.size;
          rest = ap (laid_from p (rows_of p * cols_of p - (k + 1)) (k + 1)) (sym same) ∙ rw q at L.rest;
        }

    pub laying-all : rows_of p * cols_of p ≤ k → g ≡ costs_after p g₀
    unfolding laid_from
    laying-all h = let q : rows_of p * cols_of p - k ≡ 0 = omega arith in rw q at L.rest

-- ---- what is laid is in place
-- the numbers of one cell
module _ (g : List ℕ) (k : ℕ) (fits : 3 * k + 2 < length g) (d : Wide) (cap : ℕ) where
  far : (z : ℕ) → z ≢ 3 * k → z ≢ 3 * k + 1 → z ≢ 3 * k + 2 → get_or (celled g k d cap) z 0 ≡ get_or g z 0
  far z a b e =
      get_or-set_other (set (set g (3 * k) d.lo) (3 * k + 1) d.hi) (3 * k + 2) z cap 0 e
      ∙ get_or-set_other (set g (3 * k) d.lo) (3 * k + 1) z d.hi 0 b ∙ get_or-set_other g (3 * k) z d.lo 0 a

  celled-cost : cost_of (celled g k d cap) k ≡ d
  celled-cost = λ i. record { lo = low i; hi = high i }
    where
      low : get_or (celled g k d cap) (3 * k) 0 ≡ d.lo
      low =
          get_or-set_other (set (set g (3 * k) d.lo) (3 * k + 1) d.hi) (3 * k + 2) (3 * k) cap 0 (omega arith)
          ∙ get_or-set_other (set g (3 * k) d.lo) (3 * k + 1) (3 * k) d.hi 0 (omega arith) ∙ get_or-set_same g (3 * k) d.lo 0 (omega arith)

      high : get_or (celled g k d cap) (3 * k + 1) 0 ≡ d.hi
      high =
          get_or-set_other (set (set g (3 * k) d.lo) (3 * k + 1) d.hi) (3 * k + 2) (3 * k + 1) cap 0 (omega arith)
          ∙ get_or-set_same (set g (3 * k) d.lo) (3 * k + 1) d.hi 0 (rw (length-set g (3 * k) d.lo) (omega arith))

  celled-cap : cap_of (celled g k d cap) k ≡ cap
  celled-cap = get_or-set_same (set (set g (3 * k) d.lo) (3 * k + 1) d.hi) (3 * k + 2) cap 0 (simp length-set (omega arith))

  celled-cost-off : (z : ℕ) → z ≢ k → cost_of (celled g k d cap) z ≡ cost_of g z
  celled-cost-off z ne = λ i. record { lo = far (3 * z) (omega arith) (omega arith) (omega arith) i; hi = far (3 * z + 1) (omega arith) (omega arith) (omega arith) i }

  celled-cap-off : (z : ℕ) → z ≢ k → cap_of (celled g k d cap) z ≡ cap_of g z
  celled-cap-off z ne = far (3 * z + 2) (omega arith) (omega arith) (omega arith)

words-natural : (n : ℕ) → n < 2 ^ 103 → Natural (words_of n) n
words-natural n h = record { low = omega arith; high = omega arith; is = omega arith }

module _ (p : Problem) (S : Small p) where
  abbrev cell : ℕ → Cell
  cell k = get_or p.cells k forbidden

  abbrev cap : ℕ → ℕ
  cap k = pick (allowed (cell k)) (min (supply_at p (k / cols_of p)) (demand_at p (k % cols_of p))) 0

  -- the first n cells are laid in g
  record LaidTo (g : List ℕ) (n : ℕ) : Type 0 where
    pub size : 3 * (rows_of p * cols_of p) ≤ length g
    pub costs : (k : ℕ) → k < n → Natural (cost_of g k) (cell_cost (weight p) (get_or p.cells k forbidden))
    pub caps : (k : ℕ) → k < n → cap_of g k ≡ pick (allowed (get_or p.cells k forbidden)) (min (supply_at p (k / cols_of p)) (demand_at p (k % cols_of p))) 0

  laid-turn : (g : List ℕ) (n : ℕ) → n < rows_of p * cols_of p → LaidTo g n → LaidTo (laid_cell (weight p) (get_or p.cells n forbidden) (supply_at p (n / cols_of p)) (demand_at p (n % cols_of p)) n g) (n + 1)
  laid-turn g n h L = record {
    size = rw (celled-size g n d (cap n)) L.size;
    costs = λ k hk. costs k hk (ℕ_discrete k n);
    caps = λ k hk. caps k hk (ℕ_discrete k n);
  }
    where
      d : Wide
      d = words_of (cell_cost (weight p) (get_or p.cells n forbidden))

      fits : 3 * n + 2 < length g
      fits = omega (arith, L.size)

      costs : (k : ℕ) → k < n + 1 → Dec (k ≡ n) → Natural (cost_of (celled g n d (cap n)) k) (cell_cost (weight p) (cell k))
      costs k hk (yes e) = rw (e, celled-cost g n fits d (cap n)) (words-natural (cell_cost (weight p) (cell n)) (cost-lt p S n))
      costs k hk (no e) = rw (celled-cost-off g n fits d (cap n) k e) (L.costs k (omega arith))

      caps : (k : ℕ) → k < n + 1 → Dec (k ≡ n) → cap_of (celled g n d (cap n)) k ≡ cap k
      caps k hk (yes e) = rw e (celled-cap g n fits d (cap n))
      caps k hk (no e) = celled-cap-off g n fits d (cap n) k e ∙ L.caps k (omega arith)

  laid-run : (n k : ℕ) (g : List ℕ) → k + n ≡ rows_of p * cols_of p → LaidTo g k → LaidTo (laid_from p n k g) (rows_of p * cols_of p)
  unfolding laid_from
  laid-run zero k g e L = let q : k ≡ rows_of p * cols_of p = omega arith in rw q at L
  laid-run (suc n) k g e L = laid-run n (k + 1) (laid_cell (weight p) (cell k) (supply_at p (k / cols_of p)) (demand_at p (k % cols_of p)) k g) (omega arith) (laid-turn g k (omega arith) L)

  pub costs-hold : (g : List ℕ) → 3 * (rows_of p * cols_of p) ≤ length g → CostsHold p (costs_after p g)
  unfolding costs_after
  costs-hold g h = go (laid-run (rows_of p * cols_of p) 0 g (zero-add (rows_of p * cols_of p)) (record { size = h; costs = λ k l. absurd (omega arith); caps = λ k l. absurd (omega arith) }))
    where
      go : LaidTo (laid_from p (rows_of p * cols_of p) 0 g) (rows_of p * cols_of p) → CostsHold p (laid_from p (rows_of p * cols_of p) 0 g)
      go L = record {
        costs = λ i j hi hj. L.costs (i * cols_of p + j) (digits_lt hi hj);
        caps = λ i j hi hj. rw (digits_div i hj, digits_mod i hj) at (L.caps (i * cols_of p + j) (digits_lt hi hj));
      }

  -- for the solver
  pub given-of : (supply demand g₀ g : List ℕ) → p.supply ≡ supply → p.demand ≡ demand → 3 * (rows_of p * cols_of p) ≤ length g₀ → g ≡ costs_after p g₀ → Given p supply demand g
  given-of supply demand g₀ g es ed h e = record { supply_is = es; demand_is = ed; small = S; costs = rw e (costs-hold g₀ h) }

  pub laid_of : (supply demand g₀ g : List ℕ) → p.supply ≡ supply → p.demand ≡ demand → 3 * (rows_of p * cols_of p) ≤ length g₀ → g ≡ costs_after p g₀ → Laid supply demand g
  laid_of supply demand g₀ g es ed h e = record { p = p; given = given-of supply demand g₀ g es ed h e }
