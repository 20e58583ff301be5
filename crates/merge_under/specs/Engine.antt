-- Between the two halves of a run: what stands in the arrays, and how many pairs the table counts.
use Rattle.std.specs.Prelude.{◌≡◌, List, ◌≢◌, ℕ, length}
use Rattle.spec.specs.Bytes.{Limits, refused}
use Rattle.spec.specs.Image.{lowest_doubled, tables_of}
use Rattle.query.specs.Settings.{asked_of}
use Rattle.query.specs.declared.Query.{Query}
use Rattle.outcome.specs.declared.Answer as O
use Rattle.outcome.specs.declared.Answer.TheVariants as O'
use Rattle.beginning.specs.Beginning.{Ready}
use Rattle.prepare.specs.Preparing.{accepted_of, Goes}
use Rattle.prepared.specs.declared.Prepared.{Prepared}
use Rattle.prepared.specs.declared.Prepared.TheVariants as P
use Rattle.contract.specs.declared.Answer.{Answer}
use Rattle.contract.specs.declared.Answer.TheVariants.{Listing, Refused}

-- what `prepare` answered, and the arrays as it left them
abbrev pub Stands : Limits → List ℕ → Query → Prepared → List ℕ → List ℕ → List ℕ → Type 0
Stands lim image q (P.Refused k) graph terms runs = (accepted_of lim (length graph) image q ≡ refused k) × (k ≢ 10)
Stands lim image q (P.Doubled c) graph terms runs = (accepted_of lim (length graph) image q ≡ refused 10) × (c ≡ lowest_doubled (tables_of image))
Stands lim image q (P.Go im b) graph terms runs = Goes lim (length graph) image q im × Ready lim (tables_of image) (asked_of q) q.budget im.classes b graph terms runs

-- the engine's answer as that of the call
abbrev pub answer_as : O.Answer → Answer
answer_as (O'.Listing n) = Listing n
answer_as (O'.Refused k) = Refused k
