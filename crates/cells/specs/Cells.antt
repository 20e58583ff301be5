-- The cells of a transport action by their numbers: row by row.
use Rattle.std.specs.Prelude.{◌≡◌, refl, true, List, [], ◌∷◌, ℕ, zero, suc, ◌+◌, ◌*◌, ◌/◌, ◌%◌, ◌≤◌, ◌<◌, length, get_or}
use Rattle.std.proofs.Common.{sym, ap, ◌∙◌, div-add-mod', arith, get_or-take}
use Rattle.spec.specs.Bytes.{Two}
use Rattle.spec.specs.Monomial.{Monomial, MonomialPair, pair_of, classes, narrow}
use Rattle.spec.specs.Action.{cell_pairs}
use Rattle.spec.specs.Meaning.{In}
use Rattle.laws.specs.Lists.{get_in}
use Rattle.laws.specs.Grids.{cells-length, cells_at}
use Rattle.monomial_terms.specs.Terms.{TERMS, NUMBERS, terms, held}
use Rattle.monomial_terms.specs.TermLaws.{held-length}
use Rattle.cost_matrix.specs.Places.{cells_fit, div-in}

abbrev pub with : ℕ → ℕ → Two
with a b = (a, b)

-- ---- in the buffers of two monomials
abbrev pub sides_of : List ℕ → ℕ → List ℕ → ℕ → MonomialPair
sides_of left rows right cols = pair_of (held rows left) (held cols right)

-- each cell is a pair of two of w classes
abbrev pub Joined : ℕ → MonomialPair → Type 0
Joined w m = (p : Two) → In p (cell_pairs m) → (p.0 < w) × (p.1 < w)

-- Two monomials of at most 65 terms each, with 32-bit counts.
pub record Sides (left : List ℕ) (rows : ℕ) (right : List ℕ) (cols : ℕ) : Type 0 where
  pub left_long : length left ≡ NUMBERS
  pub right_long : length right ≡ NUMBERS
  pub few_rows : rows ≤ TERMS
  pub few_cols : cols ≤ TERMS
  pub narrow_rows : narrow (held rows left) ≡ true
  pub narrow_cols : narrow (held cols right) ≡ true

class-in : (s : List ℕ) (n i : ℕ) → length s ≡ NUMBERS → n ≤ TERMS → i < n → get_or (classes (held n s)) i 0 ≡ (get_or (terms s) i (0, 0)).0
class-in s n i e h k = at (held n s) i (omega (arith, held-length n s e h)) ∙ ap (λ (t : Two). t.0) (get_or-take n (terms s) i (0, 0) k)
  where
    at : (m : Monomial) (i : ℕ) → i < length m → get_or (classes m) i 0 ≡ (get_or m i (0, 0)).0
    at [] i h = absurd (omega arith)
    at (t ∷ m) zero h = refl
    at (t ∷ m) (suc i) h = at m i (omega arith)

module _ (left : List ℕ) (r : ℕ) (right : List ℕ) (c : ℕ) (S : Sides left r right c) where
  pub cell-count : length (cell_pairs (sides_of left r right c)) ≡ r * c
  cell-count = cells-length (sides_of left r right c) ∙ (λ i. held-length r left S.left_long S.few_rows i * held-length c right S.right_long S.few_cols i)

  -- "At most 65 rows and 65 columns"
  pub cells-few : r * c ≤ 4225
  cells-few = cells_fit r c S.few_rows S.few_cols

  module _ (k : ℕ) (h : k < r * c) where
    pub row_lt : k / c < TERMS
    row_lt = omega (arith, (div-in r c k h).0, S.few_rows)

    pub col-lt : k % c < TERMS
    col-lt = omega (arith, (div-in r c k h).1, S.few_cols)

    pub some-col : 0 < c
    some-col = omega (arith, (div-in r c k h).1)

    pub cell-is : with (get_or (terms left) (k / c) (0, 0)).0 (get_or (terms right) (k % c) (0, 0)).0 ≡ get_or (cell_pairs (sides_of left r right c)) k (0, 0)
    cell-is =
        let u : length (held r left) ≡ r = held-length r left S.left_long S.few_rows in
        let v : length (held c right) ≡ c = held-length c right S.right_long S.few_cols in
        let (hi, hj) = div-in r c k h in
        sym (
        cells_at (sides_of left r right c) (k / c) (k % c) k (omega (arith, hi)) (omega (arith, hj)) (sym (ap (λ (n : ℕ). k / c * n + k % c) v ∙ div-add-mod' k c))
        ∙ (λ i. (class-in left r (k / c) S.left_long S.few_rows hi i, class-in right c (k % c) S.right_long S.few_cols hj i))
        )

    -- a cell's pair is of classes that the index has
    pub cell-within : {w : ℕ} → Joined w (sides_of left r right c) → (a b : ℕ) → with a b ≡ get_or (cell_pairs (sides_of left r right c)) k (0, 0) → (a < w) × (b < w)
    cell-within J a b e =
        let (x, y) = J (get_or (cell_pairs (sides_of left r right c)) k (0, 0)) (get_in (0, 0) (cell_pairs (sides_of left r right c)) k (omega (arith, cell-count))) in
        (omega (arith, x, ap (λ (t : Two). t.0) e), omega (arith, y, ap (λ (t : Two). t.1) e))
