-- (02, Paper 13) Checks spent, and the fleets turned round, of calls of `merge`, from their contracts.
use Rattle.std.specs.Prelude.{◌≡◌, Bool, true, false, List, [], ◌∷◌, ◌++◌, ℕ, ◌+◌, ◌*◌, ◌≤◌, take}
use Rattle.spec.specs.Bytes.{each, text, decimal, ok}
use Rattle.spec.specs.Image.{Tables, tables_of}
use Rattle.spec.specs.Pairs.{pairs, making}
use Rattle.spec.specs.Run.{limits_for, Outcome, run_of}
use Rattle.spec.specs.declared.Caller.{Caller}
use Rattle.spec.specs.Listing.{subterms, line, status_of, report_line, reported, first_line, term_line, listing_of}
use Rattle.steps.specs.Charges.{Charge, charge}
use Rattle.steps.specs.Mirror.{Alike}
use Rattle.mirror.proofs.Runs.{turned_same, turned-alike}
use Rattle.contract.specs.declared.Answer.TheVariants.{Listing}
use Rattle.contract.specs.Merges.{Merges}
use Rattle.demands.specs.Calls.{passed_over, accepted}

-- ---- of a call that is not refused
module _ (who : Caller) (image : List ℕ) (left right budget : ℕ) (fit : Bool) (out out' : List ℕ) (n : ℕ) (m : Merges who image left right budget fit out out' (Listing n)) where
  abbrev t : Tables
  t = tables_of image

  -- the run behind the listing
  abbrev o : Outcome
  o = (accepted who image left right budget fit out out' n m).o

  abbrev ran : run_of (limits_for who) t (left, right) budget ≡ ok o
  ran = (accepted who image left right budget fit out out' n m).ran

  -- (Paper 7) "`skipped` and the number of monomial pairs passed over in building, zero included"; (Paper 13) "the listing's first line gets a final field `checks`"
  pub ends-with-checks : take n out'
      ≡ line (status_of o.complete
      ∷ text "pairs" ∷ decimal o.nodes
      ∷ text "rounds" ∷ decimal o.rounds
      ∷ text "size" ∷ decimal o.quality.0
      ∷ text "mass" ∷ decimal o.quality.1
      ∷ text "skipped" ∷ decimal (passed_over who image left right budget)
      ∷ text "checks" ∷ decimal o.checks ∷ [])
      ++ each (term_line o.pool (subterms o.pool o.root)) (subterms o.pool o.root)
  unfolding listing_of first_line report_line reported each
  ends-with-checks = (accepted who image left right budget fit out out' n m).listed

  charged : Charge budget o
  charged = charge (pairs t) (making (limits_for who) t) (left, right) budget o ran

  -- "A complete run with n pairs and r rounds spends exactly 2n + (r+1)(n+1).": whatever its budget
  pub spends-exactly : o.complete ≡ true → o.checks ≡ 2 * o.nodes + (o.rounds + 1) * (o.nodes + 1)
  spends-exactly = charged.complete

  -- "the checks that passed": of a run cut short all that it was allowed
  pub spends-its-budget : o.complete ≡ false → o.checks ≡ budget
  spends-its-budget = charged.partial

  pub spends-no-more : o.checks ≤ budget
  spends-no-more = charged.within

-- ---- two calls on (left, right) and (right, left): the same image; each has its own caller, budget and buffers
module _ (who who₂ : Caller) (image : List ℕ) (left right b c : ℕ) (fit fit₂ : Bool) (out out' out₂ out₂' : List ℕ) (n n₂ : ℕ) (m : Merges who image left right b fit out out' (Listing n)) (m₂ : Merges who₂ image right left c fit₂ out₂ out₂' (Listing n₂)) where
  abbrev x : Outcome
  x = o who image left right b fit out out' n m

  abbrev y : Outcome
  y = o who₂ image right left c fit₂ out₂ out₂' n₂ m₂

  -- "Complete runs on (left, right) and (right, left), neither refused, must be shown to have equal pairs, rounds, size, mass and checks."
  pub turned_round : x.complete ≡ true → y.complete ≡ true → Alike x y
  turned_round e f = turned-alike (limits_for who) (limits_for who₂) (tables_of image) left right b c x y (ran who image left right b fit out out' n m) e (ran who₂ image right left c fit₂ out₂ out₂' n₂ m₂) f

-- ---- the same with one budget for both, which may cut them short: the status is the same too
pub turned-one-budget : (who who₂ : Caller) (image : List ℕ) (left right budget : ℕ) (fit fit₂ : Bool) (out out' out₂ out₂' : List ℕ) (n n₂ : ℕ)
    → (m : Merges who image left right budget fit out out' (Listing n)) (m₂ : Merges who₂ image right left budget fit₂ out₂ out₂' (Listing n₂))
    → ((o who image left right budget fit out out' n m).complete ≡ (o who₂ image right left budget fit₂ out₂ out₂' n₂ m₂).complete) × Alike (o who image left right budget fit out out' n m) (o who₂ image right left budget fit₂ out₂ out₂' n₂ m₂)
turned-one-budget who who₂ image left right budget fit fit₂ out out' out₂ out₂' n n₂ m m₂ =
    turned_same (limits_for who) (limits_for who₂) (tables_of image) left right budget _ _ (ran who image left right budget fit out out' n m) (ran who₂ image right left budget fit₂ out₂ out₂' n₂ m₂)
