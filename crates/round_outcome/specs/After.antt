-- What follows a round. "The run is complete at the first finished round without change."
use Rattle.std.specs.Prelude.{◌≡◌, Bool, true, false, Option, Some, None, List, ℕ, ◌-◌, ◌≤◌, get_or}
use Rattle.std.proofs.Common.{sym, ap, ◌∙◌, arith}
use Rattle.outcome.specs.declared.Outcome.{Outcome}
use Rattle.outcome.specs.declared.Ran.TheVariants as R
use Rattle.budget.specs.declared.Budget.{Budget}
use Rattle.round_outcome.specs.declared.After.{After}
use Rattle.round_outcome.specs.declared.After.TheVariants as N
use Rattle.round_outcome.specs.declared.Round.{Round}
use Rattle.round_outcome.specs.declared.Round.TheVariants as U

-- the outcome that the arrays report
abbrev pub reported_in : List ℕ → Bool → ℕ → ℕ → ℕ → Outcome
reported_in pairs complete n rounds checks = record { complete = complete; pairs = n; rounds = rounds; size = get_or pairs 0 0; mass = get_or pairs 1 0; root = get_or pairs 2 0; checks = checks }

-- no more checks are left than the run's budget had
abbrev pub LeftOf : ℕ → Option Round → Type 0
LeftOf budget (Some (U.Finished changed b)) = b.left ≤ budget
LeftOf budget (Some U.Cut) = Unit
LeftOf budget None = Unit

-- what follows a round: the next, with the budget left; or the run's end, with "the checks that passed" (02, Paper 13)
abbrev pub after_of : Option Round → List ℕ → ℕ → ℕ → ℕ → After
after_of None pairs n rounds budget = N.Ended (R.Stopped 13)
after_of (Some U.Cut) pairs n rounds budget = N.Ended (R.Done (reported_in pairs false n rounds budget))
after_of (Some (U.Finished false b)) pairs n rounds budget = N.Ended (R.Done (reported_in pairs true n rounds (budget - b.left)))
after_of (Some (U.Finished true b)) pairs n rounds budget = N.Next b

-- only a round that changed is followed by the next
pub after_next : (x : Option Round) (pairs : List ℕ) (n rounds budget : ℕ) (y : After) → y ≡ after_of x pairs n rounds budget → (b : Budget) → y ≡ N.Next b → x ≡ Some (U.Finished true b)
after_next x pairs n rounds budget y e b q = go x (sym q ∙ e)
  where
    go : (x : Option Round) → N.Next b ≡ after_of x pairs n rounds budget → x ≡ Some (U.Finished true b)
    go None z = absurd (let w : ◌≡◌ {A = ℕ} 0 1 = cc in omega arith)
    go (Some U.Cut) z = absurd (let w : ◌≡◌ {A = ℕ} 0 1 = cc in omega arith)
    go (Some (U.Finished false d)) z = absurd (let w : ◌≡◌ {A = ℕ} 0 1 = cc in omega arith)
    go (Some (U.Finished true d)) z = let w : d ≡ b = cc in ap (λ (u : Budget). Some (U.Finished true u)) w
