-- What the parts of a run leave for its conclusion: an outcome whose pool the buffers hold, or a refusal.
use Rattle.std.specs.Prelude.{◌≡◌, List, ℕ, ◌*◌, ◌≤◌, ◌<◌, length}
use Rattle.spec.specs.Bytes.{Res, ok, refused}
use Rattle.spec.specs.Run as run
use Rattle.spec.specs.Listing.{listing_of}
use Rattle.terms.specs.Buffers.{count_in}
use Rattle.terms.specs.Chains.{Holds}
use Rattle.outcome.specs.Answers.{outcome_in, ran_in, Listable, Answers}
use Rattle.outcome.specs.AnswerLaws.{answer-same}
use Rattle.outcome.specs.declared.Ran.{Ran}
use Rattle.outcome.specs.declared.Ran.TheVariants as R
use Rattle.outcome.specs.declared.Answer.{Answer}

-- The buffers hold the outcome of a run that came to m, with two marks a term; a pool that is larger gives the same listing, for every number k of monomial pairs passed over.
abbrev pub RanTo : Res run.Outcome → List ℕ → List ℕ → List ℕ → Ran → Type 0
RanTo m marks terms runs (R.Stopped k) = m ≡ refused k
RanTo m marks terms runs (R.Done o) = (u : run.Outcome) × (m ≡ ok u) × ((k : ℕ) → listing_of k u ≡ listing_of k (outcome_in o terms runs)) × Holds terms runs × (o.root < count_in terms) × (2 * count_in terms ≤ length marks)

module _ (m : Res run.Outcome) (marks terms runs : List ℕ) where
  pub ran-listable : (x : Ran) → RanTo m marks terms runs x → Listable x marks terms runs
  ran-listable (R.Stopped k) X = tt
  ran-listable (R.Done o) X = (X.3, X.4, X.5)

  pub ran-answers : (k : ℕ) (x : Ran) (out out' : List ℕ) (r : Answer) → RanTo m marks terms runs x → Answers k (ran_in x terms runs) out out' r → Answers k m out out' r
  ran-answers k (R.Stopped n) out out' r X Y = rw X Y
  ran-answers k (R.Done o) out out' r X Y = answer-same k m X.0 (outcome_in o terms runs) out out' r X.1 (X.2 k) Y
