-- What a call of `tariff_merge` or `tariff_quote`, the C interface, returns: each case of the answer as numbers.
use Rattle.std.specs.Prelude.{◌≡◌, ◌≢◌, Bool, List, ℕ, ◌≤◌, eqb, length, take}
use Rattle.spec.specs.Bytes.{pick, Res, ok, refused}
use Rattle.spec.specs.Image.{lowest_doubled, tables_of}
use Rattle.spec.specs.Merge.{merge_for, output_after}
use Rattle.spec.specs.declared.Caller.{Caller}
use Rattle.contract.specs.declared.Answer.{Answer}
use Rattle.contract.specs.declared.Answer.TheVariants.{Listing, Refused, Doubled}
use Rattle.returned.specs.declared.Returned.{Returned}
use Rattle.returned.specs.declared.Lengths.{Lengths}

-- "When an answer is an enum, a definition provides this paper's number and values for each of the enum's cases": 0 for a listing.
abbrev pub returned_of : Answer → Returned
returned_of (Listing n) = record { number = 0; bytes = n; class = 0 }
returned_of (Refused k) = record { number = k; bytes = 0; class = 0 }
returned_of (Doubled c) = record { number = 10; bytes = 0; class = c }

-- What the numbers say: the listing, that is the first bytes of the output buffer afterwards, or the refusal.
abbrev pub result_of : List ℕ → Returned → Res (List ℕ)
result_of out r = pick (eqb r.number 0) (ok (take r.bytes out)) (refused r.number)

-- A call of the caller `who` (02, Paper 9): of `tariff_merge` the desk's, of `tariff_quote` the quote page's. `fit`: no work buffer is below its constant length; `out`, `out'`: the output buffer before and after the call.
pub record Returns (who : Caller) (image : List ℕ) (left right budget : ℕ) (fit : Bool) (out out' : List ℕ) (r : Returned) : Type 0 where
  pub result : result_of out' r ≡ merge_for who fit image left right budget (length out)
  pub output : out' ≡ output_after out (merge_for who fit image left right budget (length out))
  -- the listing's bytes are all in the output buffer
  pub room : r.bytes ≤ length out'
  -- the table of refusals, without those of the transport alone
  pub table : r.number ≤ 14
  -- "10, with a class": "the lowest-numbered class holding a literal that also stands in another class" (02, Paper 2)
  pub doubled : r.number ≡ 10 → r.class ≡ lowest_doubled (tables_of image)
  -- what says nothing is 0
  pub no-listing : r.number ≢ 0 → r.bytes ≡ 0
  pub no-class : r.number ≢ 10 → r.class ≡ 0

-- The constant lengths of the work buffers (docs/BUFFERS.md): (02, Paper 9) "the same for both" callers.
abbrev pub lengths : Lengths
lengths = record { graph = 4352; pairs = 1536; work = 1024; flow = 256; terms = 3074; runs = 1024 }
