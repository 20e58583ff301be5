-- What is answered of a run: a listing at the output's front, or a refusal.
use Rattle.std.specs.Prelude.{◌≡◌, List, ℕ, ◌*◌, ◌≤◌, ◌<◌, leb, length, take}
use Rattle.spec.specs.Bytes.{Res, ok, refused, ◌>>=◌, rule}
use Rattle.spec.specs.Run as run
use Rattle.spec.specs.Listing.{listing_of}
use Rattle.spec.specs.Merge.{output_after}
use Rattle.terms.specs.Buffers.{count_in, pool_of}
use Rattle.terms.specs.Chains.{Holds}
use Rattle.outcome.specs.declared.Outcome.{Outcome}
use Rattle.outcome.specs.declared.Ran.{Ran}
use Rattle.outcome.specs.declared.Ran.TheVariants as R
use Rattle.outcome.specs.declared.Answer.{Answer}
use Rattle.outcome.specs.declared.Answer.TheVariants as A

-- the outcome of a run whose pool the buffers hold
abbrev pub outcome_in : Outcome → List ℕ → List ℕ → run.Outcome
outcome_in o terms runs = record { complete = o.complete; nodes = o.pairs; rounds = o.rounds; quality = (o.size, o.mass); pool = pool_of terms runs; root = o.root; checks = o.checks }

-- what a run came to
abbrev pub ran_in : Ran → List ℕ → List ℕ → Res run.Outcome
ran_in (R.Stopped k) terms runs = refused k
ran_in (R.Done o) terms runs = ok (outcome_in o terms runs)

-- a run whose outcome can be listed; marks has two numbers a term
abbrev pub Listable : Ran → List ℕ → List ℕ → List ℕ → Type 0
Listable (R.Stopped k) marks terms runs = Unit
Listable (R.Done o) marks terms runs = Holds terms runs × (o.root < count_in terms) × (2 * count_in terms ≤ length marks)

-- "14: the listing exceeds the output buffer": the tail of `merge_of`; k is the number of monomial pairs passed over
unfoldable pub listed_of : ℕ → Res run.Outcome → ℕ → Res (List ℕ)
unfolding listing_of
listed_of k m room = do
  o ← m
  _ ← rule 14 (leb (length (listing_of k o)) room)
  ok (listing_of k o)

-- the answer: the listing's length, or the refusal's number
abbrev pub answer_of : List ℕ → Answer → Res (List ℕ)
answer_of out (A.Listing n) = ok (take n out)
answer_of out (A.Refused k) = refused k

-- the answer and the output for a run that came to m and passed over k monomial pairs
pub record Answers (k : ℕ) (m : Res run.Outcome) (out out' : List ℕ) (r : Answer) : Type 0 where
  pub answer : answer_of out' r ≡ listed_of k m (length out)
  pub output : out' ≡ output_after out (listed_of k m (length out))
  pub fits : (n : ℕ) → r ≡ A.Listing n → n ≤ length out
