-- What a plan leaves of supplies and demands, and what its columns have: the margins of a search, on plain lists in the code's shape.
use Rattle.std.specs.Prelude.{◌≡◌, List, ℕ, ◌+◌, ◌-◌, ◌*◌, ◌^◌, ◌≤◌, ◌<◌, length, get_or}
use Rattle.spec.specs.Bytes.{sum_to}
use Rattle.spec.specs.Transport.{WIDEST}
use Rattle.search_laws.specs.Edges.{MARGINS, TAKEN}

-- the cells of a plan f of r rows and c columns are 32-bit numbers
pub record Low (r c : ℕ) (f : List ℕ) : Type 0 where
  pub room : r * c ≤ length f
  pub low : (k : ℕ) → k < r * c → get_or f k 0 < 2 ^ 32

abbrev pub row_sum : List ℕ → ℕ → ℕ → ℕ
row_sum f c i = sum_to c (λ j. get_or f (i * c + j * 1) 0)

abbrev pub column_sum : List ℕ → ℕ → ℕ → ℕ → ℕ
column_sum f r c j = sum_to r (λ i. get_or f (j + i * c) 0)

-- y after n rows, where it was y₀; y after n columns
pub record RowsLeft (r c : ℕ) (supply f y₀ y : List ℕ) (n : ℕ) : Type 0 where
  pub size : length y ≡ MARGINS
  pub supplies : (i : ℕ) → i < n → get_or y i 0 ≡ get_or supply i 0 - row_sum f c i
  pub other : (k : ℕ) → WIDEST ≤ k → get_or y k 0 ≡ get_or y₀ k 0

pub record ColumnsLeft (r c : ℕ) (demand f y : List ℕ) (n : ℕ) : Type 0 where
  pub size : length y ≡ MARGINS
  pub demands : (j : ℕ) → j < n → get_or y (WIDEST + j) 0 ≡ get_or demand j 0 - column_sum f r c j
  pub taken : (j : ℕ) → j < n → get_or y (TAKEN + j) 0 ≡ column_sum f r c j

-- what a plan f leaves of supplies and demands, and what its columns have
pub record Balanced (r c : ℕ) (supply demand f y : List ℕ) : Type 0 where
  pub size : length y ≡ MARGINS
  pub supplies : (i : ℕ) → i < r → get_or y i 0 ≡ get_or supply i 0 - row_sum f c i
  pub demands : (j : ℕ) → j < c → get_or y (WIDEST + j) 0 ≡ get_or demand j 0 - column_sum f r c j
  pub taken : (j : ℕ) → j < c → get_or y (TAKEN + j) 0 ≡ column_sum f r c j
