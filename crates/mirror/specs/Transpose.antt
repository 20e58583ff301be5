-- (02, Paper 13) "Sellers also enter the two fleets in either order": a transport turned round. Rows and columns change places; a plan transposed is a plan, with the same total.
use Rattle.std.specs.Prelude.{◌≡◌, List, map, ℕ, ◌+◌, ◌*◌, ◌/◌, ◌%◌, ◌<◌, length}
use Rattle.std.proofs.Common.{sym, ◌∙◌, zero-add, arith}
use Rattle.std.proofs.Math.Path.{ap, ap₂}
use Rattle.std.proofs.Math.Arith.{digits_div, digits_mod}
use Rattle.std.proofs.Math.ListN.{get_or}
use Rattle.spec.specs.Bytes.{up_from, Two}
use Rattle.spec.specs.Monomial.{MonomialPair, classes, counts}
use Rattle.spec.specs.Transport.{Cell, cost, forbidden, Problem, rows_of, cols_of, cell_at}
use Rattle.spec.specs.Action.{TransportAction, cell_pairs}
use Rattle.spec.specs.Round.{problem_over}
use Rattle.laws.specs.Lists.{length-map, map-map, get-map}
use Rattle.laws.specs.Buffers.{up-length, up_at}
use Rattle.laws.specs.Grids.{cells-length, cells_at}
use Rattle.flow.specs.Flat.{cell-lt}
use Rattle.lgg.specs.Moves.{cell_qualities}

-- (left, right) and (right, left)
abbrev pub flip : Two → Two
flip p = (p.1, p.0)

abbrev pub turn_sides : MonomialPair → MonomialPair
turn_sides m = record { rows = m.cols; cols = m.rows }

abbrev pub turn_transport : TransportAction → TransportAction
turn_transport a = record { op = a.op; sides = turn_sides a.sides }

-- the plan transposed: r rows and c columns become c rows and r columns; cell k, of r to a row, was in row k % r and column k / r
abbrev was : ℕ → ℕ → List ℕ → ℕ → ℕ
was r c x k = get_or x (k % r * c + k / r) 0

unfoldable pub turn_plan : ℕ → ℕ → List ℕ → List ℕ
turn_plan r c x = map (was r c x) (up_from 0 (c * r))

module _ (r c : ℕ) (x : List ℕ) where
  pub turn-length : length (turn_plan r c x) ≡ c * r
  unfolding turn_plan
  turn-length = length-map (was r c x) (up_from 0 (c * r)) ∙ up-length (c * r) 0

  pub turn-at : (i j : ℕ) → i < r → j < c → get_or (turn_plan r c x) (j * r + i) 0 ≡ get_or x (i * c + j) 0
  unfolding turn_plan
  turn-at i j hi hj =
      up_at (was r c x) (c * r) 0 (j * r + i) 0 (cell-lt {m = c} {n = r} hj hi)
      ∙ ap (was r c x) (zero-add (j * r + i))
      ∙ ap₂ (λ (a b : ℕ). get_or x (a * c + b) 0) (digits_mod j hi) (digits_div j hi)

-- ---- the cells of a transport, where the pairs have the qualities q
module _ (q : Two → Two) (a : TransportAction) where
  abbrev pub problem : Problem
  problem = problem_over a (cell_qualities q a)

  -- the cell in row i and column j costs its pair's quality
  pub cell-at : (i j : ℕ) → i < rows_of problem → j < cols_of problem
      → cell_at problem i j ≡ cost (q (get_or (classes a.sides.rows) i 0, get_or (classes a.sides.cols) j 0)).0 (q (get_or (classes a.sides.rows) i 0, get_or (classes a.sides.cols) j 0)).1
  cell-at i j hi hj =
      let m = a.sides in
      let lr : length (counts m.rows) ≡ length m.rows = length-map (λ t. t.1) m.rows in
      let lc : length (counts m.cols) ≡ length m.cols = length-map (λ t. t.1) m.cols in
      let k = i * length (counts m.cols) + j in
      let long : length (cell_pairs m) ≡ length (counts m.rows) * length (counts m.cols) = cells-length m ∙ ap₂ (λ (a b : ℕ). a * b) (sym lr) (sym lc) in
      ap (λ (l : List Cell). get_or l k forbidden) (map-map q (λ z. cost z.0 z.1) (cell_pairs m))
      ∙ get-map (λ p. cost (q p).0 (q p).1) (cell_pairs m) k (0, 0) forbidden (omega (arith, long, cell-lt {m = length (counts m.rows)} {n = length (counts m.cols)} hi hj))
      ∙ ap (λ (p : Two). cost (q p).0 (q p).1) (cells_at m i j k (omega arith) (omega arith) (ap (λ (n : ℕ). i * n + j) lc))
