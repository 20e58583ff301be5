-- How large the numbers are: for at most 65 rows and columns of 32-bit numbers every label and every offer is below 2^111.
use Rattle.std.specs.Prelude.{List, [], ◌∷◌, map, ℕ, suc, ◌*◌, ◌-◌, ◌^◌, ◌≤◌, ◌<◌, length, get_or}
use Rattle.std.proofs.Math.Nat.{mul-le-mul}
use native.Mathlib.Omega.{arith}
use Rattle.spec.specs.Bytes.{sum}
use Rattle.spec.specs.Transport.{forbidden, Problem, size_of, mass_of, largest, weight, cell_cost, rows_of, cols_of, node_count, WIDEST}
use Rattle.flow.specs.SearchEnds.{dearest}

-- "At most 65 rows and 65 columns", and 32-bit numbers
pub record Small (p : Problem) : Type 0 where
  pub few_rows : rows_of p ≤ WIDEST
  pub few_columns : cols_of p ≤ WIDEST
  pub supplies : (i : ℕ) → get_or p.supply i 0 < 2 ^ 32
  pub sizes : (k : ℕ) → size_of (get_or p.cells k forbidden) < 2 ^ 32
  pub masses : (k : ℕ) → mass_of (get_or p.cells k forbidden) < 2 ^ 32

pub sum-small : (b : ℕ) (l : List ℕ) → ((i : ℕ) → get_or l i 0 ≤ b) → sum l ≤ length l * b
unfolding sum
sum-small b [] h = omega arith
sum-small b (x ∷ l) h = omega (arith, h 0, sum-small b l (λ i. h (suc i)))

pub largest-le : {A : Type 0} (f : A → ℕ) (d : A) (b : ℕ) (l : List A) → ((k : ℕ) → f (get_or l k d) ≤ b) → largest (map f l) ≤ b
unfolding largest
largest-le f d b [] h = omega arith
largest-le f d b (x ∷ l) h = omega (arith, h 0, largest-le f d b l (λ k. h (suc k)))

module _ (p : Problem) (s : Small p) where
  pub total-lt : sum p.supply < 2 ^ 39
  total-lt = omega (
    arith,
    sum-small (2 ^ 32 - 1) p.supply (λ i. omega (arith, s.supplies i)),
    mul-le-mul {n₁ = rows_of p} {m₁ = 2 ^ 32 - 1} {n₂ = 65} {m₂ = 2 ^ 32 - 1} s.few_rows (omega arith),
  )

  pub largest-mass-lt : largest (map mass_of p.cells) < 2 ^ 32
  largest-mass-lt = omega (arith, largest-le mass_of forbidden (2 ^ 32 - 1) p.cells (λ k. omega (arith, s.masses k)))

  -- W = F × V + 1
  pub weight-lt : weight p < 2 ^ 71
  unfolding weight
  weight-lt = omega (
    arith,
    mul-le-mul {n₁ = sum p.supply} {m₁ = largest (map mass_of p.cells)} {n₂ = 2 ^ 39 - 1} {m₂ = 2 ^ 32 - 1} (omega (arith, total-lt)) (omega (arith, largest-mass-lt)),
  )

  pub cost-lt : (k : ℕ) → cell_cost (weight p) (get_or p.cells k forbidden) < 2 ^ 103
  cost-lt k = omega (
    arith,
    mul-le-mul {n₁ = size_of (get_or p.cells k forbidden)} {m₁ = weight p} {n₂ = 2 ^ 32 - 1} {m₂ = 2 ^ 71 - 1} (omega (arith, s.sizes k)) (omega (arith, weight-lt)),
    s.masses k,
  )

  pub dearest-lt : dearest p (weight p) < 2 ^ 103
  dearest-lt = omega (arith, largest-le (cell_cost (weight p)) forbidden (2 ^ 103 - 1) p.cells (λ k. omega (arith, cost-lt k)))

  -- as many dearest cells as there are nodes
  pub path-lt : (k : ℕ) → k ≤ node_count p * dearest p (weight p) → k < 2 ^ 111
  path-lt k h = omega (
    arith,
    mul-le-mul {n₁ = node_count p} {m₁ = dearest p (weight p)} {n₂ = 132} {m₂ = 2 ^ 103 - 1} (omega (arith, s.few_rows, s.few_columns)) (omega (arith, dearest-lt)),
  )
