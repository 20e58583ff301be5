-- What the solver is given for a transport action: the counts of its two monomials, and the qualities of the cells' pairs.
use Rattle.std.specs.Prelude.{◌≡◌, refl, Bool, true, false, List, [], ◌∷◌, map, ℕ, zero, suc, ◌*◌, ◌^◌, ◌≤◌, ◌<◌, leb, length, get_or, drop, take}
use Rattle.std.proofs.Common.{sym, ap, ◌∙◌, arith, leb-true, get_or-take, take_at}
use Rattle.std.proofs.Math.Decide.{dec_lt}
use Rattle.std.proofs.Math.ListN.{get_or-eq_default}
use Rattle.spec.specs.Bytes.{Two, all}
use Rattle.spec.specs.Monomial.{Monomial, MonomialPair, counts, narrow, COUNT}
use Rattle.spec.specs.Transport.{Cell, cost, forbidden, size_of, mass_of, Problem, rows_of, cols_of}
use Rattle.spec.specs.Action.{cell_pairs}
use Rattle.spec.specs.Round.{cells_over}
use Rattle.laws.specs.Buffers.{over}
use Rattle.flow.specs.Magnitude.{Small}
use Rattle.laws.specs.Lists.{length-map}
use Rattle.monomial_terms.specs.Terms.{TERMS, NUMBERS, terms, held}
use Rattle.monomial_terms.specs.TermLaws.{held-length}
use Rattle.arrays.specs.Arrays.{quality_in}
use Rattle.cells.specs.Cells.{with, sides_of, Sides, cell-count}

-- what an action over m has to solve when its cells' pairs have the qualities q
abbrev pub problem_at : (Two → Two) → MonomialPair → Problem
problem_at q m = record { supply = counts m.rows; demand = counts m.cols; cells = cells_over (map q (cell_pairs m)) }

-- ---- counts
pub count-at : (m : Monomial) (i : ℕ) → i < length m → get_or (counts m) i 0 ≡ (get_or m i (0, 0)).1
count-at [] i h = absurd (omega arith)
count-at (t ∷ m) zero h = refl
count-at (t ∷ m) (suc i) h = count-at m i (omega arith)

narrow_at : (m : Monomial) → narrow m ≡ true → (i : ℕ) → i < length m → (get_or m i (0, 0)).1 < 2 ^ 32
unfolding all
narrow_at [] n i h = absurd (omega arith)
narrow_at (t ∷ m) n i h = step (leb t.1 COUNT) refl (λ e j k. narrow_at m e j k) i h
  where
    step : (b : Bool) → leb t.1 COUNT ≡ b → (narrow m ≡ true → (i : ℕ) → i < length m → (get_or m i (0, 0)).1 < 2 ^ 32) → (i : ℕ) → i < length (t ∷ m) → (get_or (t ∷ m) i (0, 0)).1 < 2 ^ 32
    step true e ih zero h = omega (arith, leb-true t.1 COUNT e)
    step true e ih (suc i) h = ih (rw (all, e) at n) i (omega arith)
    step false e ih i h = let z : ◌≡◌ {A = Bool} false true = rw (all, e) at n in let y : ◌≡◌ {A = ℕ} 0 1 = cc in absurd (omega arith)

module _ (s : List ℕ) (n : ℕ) (a : length s ≡ NUMBERS) (h : n ≤ TERMS) where
  pub counts-length : length (counts (held n s)) ≡ n
  counts-length = length-map (λ t. t.1) (held n s) ∙ held-length n s a h

  pub counts-at : (i : ℕ) → i < n → (get_or (terms s) i (0, 0)).1 ≡ get_or (counts (held n s)) i 0
  counts-at i k = sym (count-at (held n s) i (omega (arith, held-length n s a h)) ∙ ap (λ (t : Two). t.1) (get_or-take n (terms s) i (0, 0) k))

  pub counts-fit : narrow (held n s) ≡ true → (i : ℕ) → i < n → (get_or (terms s) i (0, 0)).1 < 2 ^ 32
  counts-fit e i k = rw (← get_or-take n (terms s) i (0, 0) k) (narrow_at (held n s) e i (omega (arith, held-length n s a h)))

  -- the counts at the front of a buffer
  pub counts-front : (s₀ s' : List ℕ) → s' ≡ over (counts (held n s)) s₀ → take n s' ≡ counts (held n s)
  counts-front s₀ s' e = rw e (take_at (counts (held n s)) (drop (length (counts (held n s))) s₀) n counts-length)

counts-small : (m : Monomial) → narrow m ≡ true → (i : ℕ) → get_or (counts m) i 0 < 2 ^ 32
counts-small m n i = go (dec_lt i (length m))
  where
    go : Dec (i < length m) → get_or (counts m) i 0 < 2 ^ 32
    go (yes h) = rw (count-at m i h) (narrow_at m n i h)
    go (no h) = rw (get_or-eq_default (counts m) 0 {n = i} (omega (arith, h, length-map (λ t. t.1) m))) (omega arith)

-- ---- cells
cells_at : (q : Two → Two) (ps : List Two) (k : ℕ) → k < length ps → get_or (cells_over (map q ps)) k forbidden ≡ cost (q (get_or ps k (0, 0))).0 (q (get_or ps k (0, 0))).1
cells_at q [] k h = absurd (omega arith)
cells_at q (p ∷ ps) zero h = refl
cells_at q (p ∷ ps) (suc k) h = cells_at q ps k (omega arith)

cells-small : (q : Two → Two) (f : Cell → ℕ) (b : ℕ) → f forbidden < b → ((p : Two) → f (cost (q p).0 (q p).1) < b) → (ps : List Two) (k : ℕ) → f (get_or (cells_over (map q ps)) k forbidden) < b
cells-small q f b z h [] k = z
cells-small q f b z h (p ∷ ps) zero = h p
cells-small q f b z h (p ∷ ps) (suc k) = cells-small q f b z h ps k

cells-many : (q : Two → Two) (ps : List Two) → length (cells_over (map q ps)) ≡ length ps
cells-many q [] = refl
cells-many q (p ∷ ps) = ap suc (cells-many q ps)

module _ (left : List ℕ) (r : ℕ) (right : List ℕ) (c : ℕ) (S : Sides left r right c) where
  pub rows_are : length (counts (held r left)) ≡ r
  rows_are = counts-length left r S.left_long S.few_rows

  pub cols-are : length (counts (held c right)) ≡ c
  cols-are = counts-length right c S.right_long S.few_cols

  module _ (q : Two → Two) where
    pub problem-many : length (problem_at q (sides_of left r right c)).cells ≡ r * c
    problem-many = cells-many q (cell_pairs (sides_of left r right c)) ∙ cell-count left r right c S

    pub problem-wide : rows_of (problem_at q (sides_of left r right c)) * cols_of (problem_at q (sides_of left r right c)) ≡ r * c
    problem-wide = λ i. rows_are i * cols-are i

    -- cell k
    pub problem-at : (k : ℕ) → k < r * c → get_or (problem_at q (sides_of left r right c)).cells k forbidden ≡ cost (q (get_or (cell_pairs (sides_of left r right c)) k (0, 0))).0 (q (get_or (cell_pairs (sides_of left r right c)) k (0, 0))).1
    problem-at k h = cells_at q (cell_pairs (sides_of left r right c)) k (omega (arith, cell-count left r right c S))

    -- cell k, by its pair
    pub problem-cell : (k : ℕ) → k < r * c → (a b size mass : ℕ) → with a b ≡ get_or (cell_pairs (sides_of left r right c)) k (0, 0) → size ≡ (q (with a b)).0 → mass ≡ (q (with a b)).1
        → get_or (problem_at q (sides_of left r right c)).cells k forbidden ≡ cost size mass
    problem-cell k h a b size mass e s m =
        problem-at k h
        ∙ sym ((λ i. cost (s i) (m i)) ∙ (λ i. cost (q (e i)).0 (q (e i)).1))

  -- 32-bit numbers
  pub problem-small : (w : ℕ) (graph pairs : List ℕ) → ((i : ℕ) → get_or pairs i 0 < 2 ^ 32) → Small (problem_at (quality_in w graph pairs) (sides_of left r right c))
  problem-small w graph pairs low = record {
    few_rows = omega (arith, rows_are, S.few_rows);
    few_columns = omega (arith, cols-are, S.few_cols);
    supplies = counts-small (held r left) S.narrow_rows;
    sizes = cells-small (quality_in w graph pairs) size_of (2 ^ 32) (omega arith) (λ p. low _) (cell_pairs (sides_of left r right c));
    masses = cells-small (quality_in w graph pairs) mass_of (2 ^ 32) (omega arith) (λ p. low _) (cell_pairs (sides_of left r right c));
  }

  pub supplies-small : (i : ℕ) → get_or (counts (held r left)) i 0 < 2 ^ 32
  supplies-small = counts-small (held r left) S.narrow_rows
