-- What an answer of the merge says, and what a call leaves in the work buffers.
use Rattle.std.specs.Prelude.{◌≡◌, ◌≢◌, Bool, List, ℕ, ◌≤◌, length, take}
use Rattle.spec.specs.Bytes.{work_after, Res, ok, refused}
use Rattle.spec.specs.Image.{lowest_doubled, tables_of}
use Rattle.pair_search.specs.declared.Pair.{Pair}
use Rattle.pair_search.specs.Records.{none}
use Rattle.contract.specs.declared.Answer.{Answer}
use Rattle.contract.specs.declared.Answer.TheVariants.{Listing, Refused, Doubled}

-- "When an answer is an enum, a definition provides this paper's number and values for each of the enum's cases": the listing, that is the first n bytes of the output buffer afterwards, or "Returned".
abbrev pub answer_of : List ℕ → Answer → Res (List ℕ)
answer_of out (Listing n) = ok (take n out)
answer_of out (Refused k) = refused k
answer_of out (Doubled c) = refused 10

-- What the case itself says: the listing's bytes are all in the output buffer; "10, with a class": never without; "the lowest-numbered class holding a literal that also stands in another class" (02, Paper 2).
abbrev pub Carries : List ℕ → List ℕ → Answer → Type 0
Carries image out (Listing n) = n ≤ length out
Carries image out (Refused k) = k ≢ 10
Carries image out (Doubled c) = c ≡ lowest_doubled (tables_of image)

-- The plain work buffers before and after the call: "every number zero", and as they were where one was too short.
pub record Cleared (fit : Bool) (a a' b b' c c' d d' e e' f f' : List ℕ) : Type 0 where
  pub graph : a' ≡ work_after 0 fit a
  pub pairs : b' ≡ work_after 0 fit b
  pub work : c' ≡ work_after 0 fit c
  pub flow : d' ≡ work_after 0 fit d
  pub terms : e' ≡ work_after 0 fit e
  pub runs : f' ≡ work_after 0 fit f

-- The pair table likewise.
abbrev pub Table : Bool → List Pair → List Pair → Type 0
Table fit table table' = table' ≡ work_after none fit table
