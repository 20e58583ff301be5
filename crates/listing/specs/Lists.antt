-- What listing leaves: "14: the listing exceeds the output buffer", and then the output is as it was.
use Rattle.std.specs.Prelude.{◌≡◌, List, ◌++◌, ℕ, leb, length, drop, Option, Some, None}
use Rattle.spec.specs.Bytes.{pick}
use Rattle.spec.specs.Listing.{lines_of, listing_of}
use Rattle.terms.specs.Buffers.{pool_of}
use Rattle.first_line.specs.Fields.{outcome_of}
use Rattle.first_line.specs.declared.Report.{Report}
use Rattle.numbering.specs.Numbering.{numbers_of}

-- the answer and the output, for a listing l
abbrev pub answer_of : List ℕ → List ℕ → Option ℕ
answer_of l out = pick (leb (length l) (length out)) (Some (length l)) None

abbrev pub output_of : List ℕ → List ℕ → List ℕ
output_of l out = pick (leb (length l) (length out)) (l ++ drop (length l) out) out

-- the lines of a term of the pool that the buffers hold, behind a head
pub record Behind (head terms runs : List ℕ) (root : ℕ) (marks out marks' out' : List ℕ) (r : Option ℕ) : Type 0 where
  pub numbers : marks' ≡ numbers_of terms runs root marks
  pub answer : r ≡ answer_of (head ++ lines_of (pool_of terms runs) root) out
  pub output : out' ≡ output_of (head ++ lines_of (pool_of terms runs) root) out

-- the listing of a run whose pool the buffers hold
abbrev pub listing_in : Report → List ℕ → List ℕ → ℕ → List ℕ
listing_in f terms runs root = listing_of f.skipped (outcome_of f (pool_of terms runs) root)

pub record Lists (terms runs : List ℕ) (root : ℕ) (f : Report) (marks out marks' out' : List ℕ) (r : Option ℕ) : Type 0 where
  pub numbers : marks' ≡ numbers_of terms runs root marks
  pub answer : r ≡ answer_of (listing_in f terms runs root) out
  pub output : out' ≡ output_of (listing_in f terms runs root) out
