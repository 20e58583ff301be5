-- The places of cells: at most 65 rows and 65 columns have 4,225 cells; the cells of a row; the row and column of a cell.
use Rattle.std.specs.Prelude.{◌≡◌, ℕ, zero, suc, ◌+◌, ◌-◌, ◌*◌, ◌/◌, ◌%◌, ◌≤◌, ◌<◌}
use Rattle.std.proofs.Common.{mul-le-mul, mul-le-mul_right, arith}
use Rattle.std.proofs.Math.Decide.{dec_lt}
use Rattle.std.proofs.Math.Arith.{digits_div, digits_mod}
use Rattle.spec.specs.Transport.{WIDEST}
use Rattle.cost_matrix.specs.Matrix.{CELLS}

pub cells_fit : (r c : ℕ) → r ≤ WIDEST → c ≤ WIDEST → r * c ≤ CELLS
cells_fit r c h k = omega (arith, mul-le-mul {n₁ = r} {m₁ = c} {n₂ = WIDEST} {m₂ = WIDEST} h k)

pub row_fits : (i r c : ℕ) → i < r → i * c + c ≤ r * c
row_fits i r c h = omega (arith, mul-le-mul_right {m = suc i} {n = r} c h)

pub place_of : (r c k : ℕ) → k < r * c → (i : ℕ) × (j : ℕ) × (i < r) × (j < c) × (k ≡ i * c + j)
place_of zero c k h = absurd (omega arith)
place_of (suc r) c k h = go (dec_lt k (r * c)) (λ l. place_of r c k l)
  where
    go : Dec (k < r * c) → (k < r * c → (i : ℕ) × (j : ℕ) × (i < r) × (j < c) × (k ≡ i * c + j)) → (i : ℕ) × (j : ℕ) × (i < suc r) × (j < c) × (k ≡ i * c + j)
    go (yes l) ih = let (i, j, hi, hj, e) = ih l in (i, j, omega arith, hj, e)
    go (no l) ih = (r, k - r * c, omega arith, omega (arith, l), omega (arith, l))

pub div-in : (r c k : ℕ) → k < r * c → (k / c < r) × (k % c < c)
div-in r c k h = let (i, j, hi, hj, e) = place_of r c k h in rw e (rw (digits_div i hj) hi, rw (digits_mod i hj) hj)
