-- What follows starting terms: the rounds, or the run's end.
use Rattle.std.specs.Prelude.{◌≡◌, List, ℕ, ◌≤◌}
use Rattle.spec.specs.Bytes.{Limits, Res}
use Rattle.spec.specs.Image.{Tables}
use Rattle.spec.specs.Run.{Outcome}
use Rattle.lgg.specs.Pairs.{rounds_of}
use Rattle.lgg.specs.Stands.{Fits}
use Rattle.steps.specs.Standing.{Standing}
use Rattle.arrays.specs.Arrays.{pairs_in}
use Rattle.terms.specs.Buffers.{count_in}
use Rattle.terms.specs.Chains.{Holds}
use Rattle.budget.specs.declared.Budget.{Budget}
use Rattle.outcome.specs.Answers.{Answers}
use Rattle.outcome.specs.Outcomes.{RanTo}
use Rattle.outcome.specs.declared.Ran.{Ran}
use Rattle.outcome.specs.declared.Answer.{Answer}
use Rattle.rounds.specs.Graphs.{state_in, Graphs}
use Rattle.exact_fixed.specs.declared.Next.{Next}
use Rattle.exact_fixed.specs.declared.Next.TheVariants as N

-- The run comes to m, which is what the rounds come to over the n pairs of the graph, with c checks left of its budget.
pub record ToRounds (lim : Limits) (t : Tables) (m : Res Outcome) (budget w n : ℕ) (graph pairs terms runs : List ℕ) (c : ℕ) : Type 0 where
  pub graphs : Graphs lim t w (pairs_in w graph n) n graph
  pub holds : Holds terms runs
  pub within : count_in terms ≤ lim.terms
  pub stands : Standing Fits (pairs_in w graph n) (state_in pairs terms runs n 0 c budget)
  pub left : c ≤ budget
  pub is : m ≡ rounds_of lim t (pairs_in w graph n) (state_in pairs terms runs n 0 c budget)

abbrev pub Follows : Limits → Tables → Res Outcome → ℕ → ℕ → List ℕ → List ℕ → List ℕ → List ℕ → Next → Type 0
Follows lim t m budget w graph pairs terms runs (N.Rounds n c) = ToRounds lim t m budget w n graph pairs terms runs c.left
Follows lim t m budget w graph pairs terms runs (N.Ended x) = RanTo m graph terms runs x

module _ (lim : Limits) (t : Tables) (m : Res Outcome) (budget w : ℕ) (graph pairs terms runs : List ℕ) (x : Next) (X : Follows lim t m budget w graph pairs terms runs x) where
  pub follows-ended : (y : Ran) → x ≡ N.Ended y → RanTo m graph terms runs y
  follows-ended y e = rw e at X

  pub follows-rounds : (n : ℕ) (c : Budget) → x ≡ N.Rounds n c → ToRounds lim t m budget w n graph pairs terms runs c.left
  follows-rounds n c e = rw e at X

pub rounds-answer : {lim : Limits} {t : Tables} {m : Res Outcome} {budget w n : ℕ} {graph pairs terms runs : List ℕ} {c : ℕ} → ToRounds lim t m budget w n graph pairs terms runs c → (k : ℕ) (out out' : List ℕ) (r : Answer) → Answers k (rounds_of lim t (pairs_in w graph n) (state_in pairs terms runs n 0 c budget)) out out' r → Answers k m out out' r
rounds-answer T k out out' r Z = rw T.is Z
