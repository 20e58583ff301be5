-- The problem that slices give: of each cell its size, its mass and a flag.
use Rattle.std.specs.Prelude.{◌≡◌, Bool, List, [], ◌∷◌, eqb, get_or}
use Rattle.std.proofs.Math.Path.{refl, ap}
use Rattle.std.proofs.Common.{sym, ◌∙◌, add-zero, zero-add, eq-eqb, ne_eqb}
use Rattle.std.proofs.Math.Bool.{true, false}
use Prim.Native.Nat.{ℕ, zero, suc, ◌+◌, ◌^◌, ◌≤◌, ◌<◌}
use Rattle.std.proofs.Math.Decide.{dec_lt}
use native.Mathlib.Omega.{arith}
use Rattle.std.proofs.Math.ListN.{length, get_or-eq_default}
use Rattle.spec.specs.Bytes.{pick}
use Rattle.spec.specs.Transport.{Cell, cost, forbidden, Problem, size_of, mass_of, WIDEST}
use Rattle.flow.specs.Magnitude.{Small}

module _ (sizes masses allowed : List ℕ) where
  -- cell k: forbidden where its flag is 0
  abbrev pub cell_of : ℕ → Cell
  cell_of k = pick (eqb (get_or allowed k 0) 0) forbidden (cost (get_or sizes k 0) (get_or masses k 0))

  -- n cells from cell k on
  unfoldable pub cells_from : ℕ → ℕ → List Cell
  cells_from zero k = []
  cells_from (suc n) k = cell_of k ∷ cells_from n (k + 1)

module _ (sizes masses flags : List ℕ) where
  pub cells-length : (n k : ℕ) → length (cells_from sizes masses flags n k) ≡ n
  unfolding cells_from
  cells-length zero k = refl
  cells-length (suc n) k = ap suc (cells-length n (k + 1))

  pub cells_at : (n k i : ℕ) → i < n → get_or (cells_from sizes masses flags n k) i forbidden ≡ cell_of sizes masses flags (k + i)
  unfolding cells_from
  cells_at zero k i h = absurd (omega arith)
  cells_at (suc n) k zero h = rw (add-zero k) refl
  cells_at (suc n) k (suc i) h = let e : k + suc i ≡ k + 1 + i = omega arith in cells_at n (k + 1) i (omega arith) ∙ ap (cell_of sizes masses flags) (sym e)

unfoldable pub problem_of : List ℕ → List ℕ → List ℕ → List ℕ → List ℕ → Problem
unfolding cells_from
problem_of supply demand sizes masses allowed = record { supply = supply; demand = demand; cells = cells_from sizes masses allowed (length sizes) 0 }

-- a cell's number where it is allowed
abbrev pub if_allowed : List ℕ → ℕ → ℕ → ℕ
if_allowed allowed k x = pick (eqb (get_or allowed k 0) 0) 0 x

-- a cell's mass
pub mass-is : (flag size mass : ℕ) → mass_of (pick (eqb flag 0) forbidden (cost size mass)) ≡ pick (eqb flag 0) 0 mass
mass-is flag size mass = go (eqb flag 0)
  where
    go : (b : Bool) → mass_of (pick b forbidden (cost size mass)) ≡ pick b 0 mass
    go true = refl
    go false = refl

module _ (supply demand sizes masses flags : List ℕ) where
  -- as many cells as sizes
  pub cells-many : length (problem_of supply demand sizes masses flags).cells ≡ length sizes
  unfolding problem_of
  cells-many = cells-length sizes masses flags (length sizes) 0

  -- cell k
  pub cell-at : (k : ℕ) → k < length sizes → get_or (problem_of supply demand sizes masses flags).cells k forbidden ≡ cell_of sizes masses flags k
  unfolding problem_of
  cell-at k h = cells_at sizes masses flags (length sizes) 0 k h ∙ ap (cell_of sizes masses flags) (zero-add k)

  pub cell-allowed : (k : ℕ) → k < length sizes → (get_or flags k 0 ≡ 0 → ⊥) → get_or (problem_of supply demand sizes masses flags).cells k forbidden ≡ cost (get_or sizes k 0) (get_or masses k 0)
  cell-allowed k h ne = cell-at k h ∙ rw (ne_eqb (get_or flags k 0) 0 ne) refl

  pub cell-forbidden : (k : ℕ) → k < length sizes → get_or flags k 0 ≡ 0 → get_or (problem_of supply demand sizes masses flags).cells k forbidden ≡ forbidden
  cell-forbidden k h e = cell-at k h ∙ rw (eq-eqb (get_or flags k 0) 0 e) refl

  cell_out : (k : ℕ) → length sizes ≤ k → get_or (problem_of supply demand sizes masses flags).cells k forbidden ≡ forbidden
  cell_out k h = get_or-eq_default (problem_of supply demand sizes masses flags).cells forbidden {n = k} (rw cells-many h)

  -- 32-bit numbers of at most 65 rows and columns
  pub small_of : length supply ≤ WIDEST → length demand ≤ WIDEST → ((i : ℕ) → get_or supply i 0 < 2 ^ 32) → ((i : ℕ) → get_or sizes i 0 < 2 ^ 32) → ((i : ℕ) → get_or masses i 0 < 2 ^ 32) → Small (problem_of supply demand sizes masses flags)
  unfolding problem_of
  small_of hr hc a b c = record { few_rows = hr; few_columns = hc; supplies = a; sizes = λ k. size k (dec_lt k (length sizes)); masses = λ k. mass k (dec_lt k (length sizes)) }
    where
      size : (k : ℕ) → Dec (k < length sizes) → size_of (get_or (cells_from sizes masses flags (length sizes) 0) k forbidden) < 2 ^ 32
      size k (no h) = rw (cell_out k (omega (arith, h))) (omega arith)
      size k (yes h) = rw (cell-at k h) (go (eqb (get_or flags k 0) 0))
        where
          go : (o : Bool) → size_of (pick o forbidden (cost (get_or sizes k 0) (get_or masses k 0))) < 2 ^ 32
          go true = omega arith
          go false = b k

      mass : (k : ℕ) → Dec (k < length sizes) → mass_of (get_or (cells_from sizes masses flags (length sizes) 0) k forbidden) < 2 ^ 32
      mass k (no h) = rw (cell_out k (omega (arith, h))) (omega arith)
      mass k (yes h) = rw (cell-at k h) (go (eqb (get_or flags k 0) 0))
        where
          go : (o : Bool) → mass_of (pick o forbidden (cost (get_or sizes k 0) (get_or masses k 0))) < 2 ^ 32
          go true = omega arith
          go false = c k
