-- "in transport each row with each column": the cells of a transport, row by row; how many there are, and which pair of classes stands in row i and column j.
use Rattle.std.specs.Prelude.{◌≡◌, refl, List, [], ◌∷◌, map, ℕ, zero, suc, ◌+◌, ◌*◌, ◌<◌, length, get_or}
use Rattle.std.proofs.Common.{sym, ◌∙◌, not-suc-le-zero, arith, length-append, get_or-append-add}
use Rattle.std.proofs.Math.Path.{ap, ap₂}
use Rattle.spec.specs.Bytes.{each, Two}
use Rattle.spec.specs.Monomial.{MonomialPair, classes}
use Rattle.spec.specs.Action.{cell_pairs}
use Rattle.laws.specs.Lists.{length-map, get-append, get-map}

abbrev row : List ℕ → ℕ → List Two
row ys x = map (λ y. (x, y)) ys

grid-length : (xs ys : List ℕ) → length (each (row ys) xs) ≡ length xs * length ys
unfolding each
grid-length [] ys = omega arith
grid-length (x ∷ xs) ys = omega (arith, length-append (row ys x) (each (row ys) xs), length-map {B = Two} (λ y. (x, y)) ys, grid-length xs ys)

grid-at : (xs ys : List ℕ) (i j k : ℕ) → i < length xs → j < length ys → k ≡ i * length ys + j → get_or (each (row ys) xs) k (0, 0) ≡ (get_or xs i 0, get_or ys j 0)
unfolding each
grid-at [] ys i j k h l e = absurd (not-suc-le-zero h)
grid-at (x ∷ xs) ys zero j k h l e =
    let z : k ≡ j = omega arith in
    rw z (get-append (0, 0) (row ys x) (each (row ys) xs) j (omega (arith, length-map {B = Two} (λ y. (x, y)) ys)) ∙ get-map (λ y. (x, y)) ys j 0 (0, 0) l)
grid-at (x ∷ xs) ys (suc i) j k h l e =
    let z : k ≡ length (row ys x) + (i * length ys + j) = omega (arith, length-map {B = Two} (λ y. (x, y)) ys) in
    rw z (get_or-append-add (row ys x) (each (row ys) xs) (i * length ys + j) (0, 0) ∙ grid-at xs ys i j (i * length ys + j) (omega arith) l refl)

module _ (m : MonomialPair) where
  rows_long : length (classes m.rows) ≡ length m.rows
  rows_long = length-map (λ t. t.0) m.rows

  cols-long : length (classes m.cols) ≡ length m.cols
  cols-long = length-map (λ t. t.0) m.cols

  pub cells-length : length (cell_pairs m) ≡ length m.rows * length m.cols
  unfolding cell_pairs
  cells-length = grid-length (classes m.rows) (classes m.cols) ∙ ap₂ (λ (a b : ℕ). a * b) rows_long cols-long

  pub cells_at : (i j k : ℕ) → i < length m.rows → j < length m.cols → k ≡ i * length m.cols + j → get_or (cell_pairs m) k (0, 0) ≡ (get_or (classes m.rows) i 0, get_or (classes m.cols) j 0)
  unfolding cell_pairs
  cells_at i j k hi hj e = grid-at (classes m.rows) (classes m.cols) i j k (omega (arith, rows_long)) (omega (arith, cols-long)) (e ∙ ap (λ (n : ℕ). i * n + j) (sym cols-long))
