-- (02, Paper 7) Counts too large are reported, of calls of `merge`, from their contracts.
use Rattle.std.specs.Prelude.{◌≡◌, Bool, true, List, map, ℕ, ◌≤◌}
use Rattle.std.proofs.Common.{arith}
use Rattle.spec.specs.Bytes.{In, Two, ok}
use Rattle.spec.specs.Image.{Tables, tables_of}
use Rattle.spec.specs.Action.{Action, TransportAction, structural, cell_pairs}
use Rattle.spec.specs.System as system
use Rattle.spec.specs.System.{turned, start, action, no_place, and_place, queried, joined}
use Rattle.spec.specs.Pairs.{starting_quality, ones, problem_over, pairs, making}
use Rattle.spec.specs.Run.{limits_for, Outcome, run_of}
use Rattle.spec.specs.declared.Caller.{Caller}
use Rattle.spec.specs.Meaning.{Plan, ◌⊑◌}
use Rattle.laws.specs.Accepted as A
use Rattle.skips.specs.Few.{pair-few}
use Rattle.steps.specs.Demand3 as D
use Rattle.lgg.specs.Limits.{limit-most}
use Rattle.lgg.specs.Skipped.{skipped-grows, same-skipped, skipped-fits}
use Rattle.contract.specs.declared.Answer.TheVariants.{Listing}
use Rattle.contract.specs.Merges.{Merges}
use Rattle.demands.specs.Calls.{Taken, passed_over, accepted, read_of}
use Rattle.demands.specs.SkippedPairs.{Joint, MoveWithout, Without, LeastWithout, without-moves}

-- ---- "the number of monomial pairs passed over in building", of any caller, image and query
module _ (who : Caller) (image : List ℕ) (left right : ℕ) where
  abbrev T : Tables
  T = tables_of image

  -- A longer run never shows less.
  pub never_less : (b c : ℕ) → b ≤ c → passed_over who image left right b ≤ passed_over who image left right c
  never_less = skipped-grows (limits_for who) T (left, right)

  -- The number fits 32 bits, whatever the caller and the budget, for an image and classes that are not refused.
  pub fits : (fit : Bool) → Taken fit image left right → (budget : ℕ) → passed_over who image left right budget ≤ 2151940096
  fits fit t budget =
      let v = A.valid image T (read_of image t.sound) in
      omega (arith, skipped-fits (limits_for who) T (left, right) v t.asked 525376 (λ x h. pair-few T v x.0 x.1 h.0 h.1) budget, limit-most who)

-- ---- all monomial pairs, as if none were skipped
pub data AnyMove (t : Tables) (p : Two) : List Two → List ℕ → Type 0 where
  aligned : {ps : List Two} {x : List ℕ} (a : Action) → In a (structural t p.0 p.1) → ps ≡ a.pairs → x ≡ ones a.pairs → AnyMove t p ps x
  planned : {ps : List Two} {x : List ℕ} (a : TransportAction) → Joint t p a → ps ≡ cell_pairs a.sides → Plan (problem_over a (map (starting_quality t) ps)) x → AnyMove t p ps x

abbrev pub AnyDerivation : Tables → ℕ → Two → Two → Type 0
AnyDerivation t h p z = system.Derivation (pairs t) (AnyMove t) h p z

-- ---- of a call that is not refused
module _ (who : Caller) (image : List ℕ) (left right budget : ℕ) (fit : Bool) (out out' : List ℕ) (n : ℕ) (m : Merges who image left right budget fit out out' (Listing n)) where
  abbrev t : Tables
  t = tables_of image

  -- the run behind the listing
  abbrev o : Outcome
  o = (accepted who image left right budget fit out out' n m).o

  abbrev ran : run_of (limits_for who) t (left, right) budget ≡ ok o
  ran = (accepted who image left right budget fit out out' n m).ran

  -- "A complete run remains least among derivations without the skipped pairs": its quality is that of one of them, and every other has at least as much.
  pub least-without-skipped : o.complete ≡ true → ((h : ℕ) × Without t h (left, right) o.quality) × ((h : ℕ) (z : Two) → Without t h (left, right) z → o.quality ⊑ z)
  least-without-skipped full =
      let (k, _, d) = (D.least-of-height (pairs t) (making (limits_for who) t) (MoveWithout t) (without-moves t) (left, right) budget o ran).0 in
      ((k, d), D.least-of-every-height (pairs t) (making (limits_for who) t) (MoveWithout t) (without-moves t) (left, right) budget o ran full)

  -- .. and any run among those whose height is at most the rounds reported
  pub least-of-height-without : LeastWithout t o.rounds (left, right) o.quality
  least-of-height-without = D.least-of-height (pairs t) (making (limits_for who) t) (MoveWithout t) (without-moves t) (left, right) budget o ran

-- ---- a short and a long call: the same caller, image and classes, budgets b ≤ c; each has its own buffers
-- Where the short one is complete, the long one shows the same number.
pub same_number : (who : Caller) (image : List ℕ) (left right b c : ℕ) → b ≤ c → (fit : Bool) (out out' : List ℕ) (n : ℕ) (short : Merges who image left right b fit out out' (Listing n))
    → (o who image left right b fit out out' n short).complete ≡ true → passed_over who image left right c ≡ passed_over who image left right b
same_number who image left right b c h fit out out' n short = same-skipped (limits_for who) (tables_of image) (left, right) b c (o who image left right b fit out out' n short) h (ran who image left right b fit out out' n short)
