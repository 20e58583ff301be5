-- A plan as a flat list of m * n numbers, row by row: how the sums change when one cell is set.
use Rattle.std.specs.Prelude.{List, ◌≢◌, ◌≡◌, ℕ, ◌+◌, ◌*◌, ◌<◌, ◌/◌, ◌%◌, length, get_or, set}
use Rattle.std.proofs.Common.{sym, ap, ◌∙◌, arith, get_or-set_same, get_or-set_other}
use Rattle.std.proofs.Math.Arith.{digits_lt, digits_div, digits_mod}
use Rattle.spec.specs.Bytes.{sum_to}
use Rattle.flow.specs.Sums.{sum-cong, sum-change}

-- the cell (i, j) of a plan with n columns
abbrev pub at : ℕ → List ℕ → ℕ → ℕ → ℕ
at n l i j = get_or l (i * n + j) 0

pub cell-lt : {m n i j : ℕ} → i < m → j < n → i * n + j < m * n
cell-lt hi hj = digits_lt hi hj

pub cell_row : {n : ℕ} (i : ℕ) {j : ℕ} (i' : ℕ) {j' : ℕ} → j < n → j' < n → i * n + j ≡ i' * n + j' → i ≡ i'
cell_row {n} i {j} i' {j'} h h' e = sym (digits_div i h) ∙ ap (λ (z : ℕ). z / n) e ∙ digits_div i' h'

pub cell-col : {n : ℕ} (i : ℕ) {j : ℕ} (i' : ℕ) {j' : ℕ} → j < n → j' < n → i * n + j ≡ i' * n + j' → j ≡ j'
cell-col {n} i {j} i' {j'} h h' e = sym (digits_mod i h) ∙ ap (λ (z : ℕ). z % n) e ∙ digits_mod i' h'

module _ (m n : ℕ) (l : List ℕ) (len : length l ≡ m * n) (i j v : ℕ) (hi : i < m) (hj : j < n) where
  pub at_same : at n (set l (i * n + j) v) i j ≡ v
  at_same = get_or-set_same l (i * n + j) v 0 (omega (arith, len, cell-lt hi hj))

  pub at_other : (i' j' : ℕ) → j' < n → (i' ≡ i → j' ≡ j → ⊥) → at n (set l (i * n + j) v) i' j' ≡ at n l i' j'
  at_other i' j' h ne = get_or-set_other l (i * n + j) (i' * n + j') v 0 (λ e. ne (cell_row i' i h hj e) (cell-col i' i h hj e))

  pub row_same : sum_to n (λ k. at n (set l (i * n + j) v) i k) + at n l i j ≡ sum_to n (λ k. at n l i k) + v
  row_same =
      sum-change n (λ k. at n (set l (i * n + j) v) i k) (λ k. at n l i k) j hj (λ k q r. at_other i k q (λ _ e. r e))
      ∙ ap (λ (z : ℕ). sum_to n (λ k. at n l i k) + z) at_same

  pub row_other : (i' : ℕ) → i' ≢ i → sum_to n (λ k. at n (set l (i * n + j) v) i' k) ≡ sum_to n (λ k. at n l i' k)
  row_other i' ne = sum-cong n (λ k q. at_other i' k q (λ e _. ne e))

  pub col-same : sum_to m (λ k. at n (set l (i * n + j) v) k j) + at n l i j ≡ sum_to m (λ k. at n l k j) + v
  col-same =
      sum-change m (λ k. at n (set l (i * n + j) v) k j) (λ k. at n l k j) i hi (λ k q r. at_other k j hj (λ e _. r e))
      ∙ ap (λ (z : ℕ). sum_to m (λ k. at n l k j) + z) at_same

  pub col-other : (j' : ℕ) → j' < n → j' ≢ j → sum_to m (λ k. at n (set l (i * n + j) v) k j') ≡ sum_to m (λ k. at n l k j')
  col-other j' h ne = sum-cong m (λ k q. at_other k j' h (λ _ e. ne e))
