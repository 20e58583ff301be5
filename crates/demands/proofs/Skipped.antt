-- (02, Paper 7) Counts too large are reported, of calls of `merge`, from their contracts.
use Rattle.std.specs.Prelude.{◌≡◌, refl, Bool, true, List, ℕ, ◌≤◌}
use Rattle.std.proofs.Common.{sym, ◌∙◌, subst, arith}
use Rattle.spec.specs.Bytes.{In, here, there, Two, ok, passed}
use Rattle.spec.specs.Image.{Tables, tables_of}
use Rattle.spec.specs.System as system
use Rattle.spec.specs.System.{turned, start, action, no_place, and_place, queried, joined}
use Rattle.spec.specs.Pairs.{pairs, making}
use Rattle.spec.specs.Graph.{build, skipped_in}
use Rattle.spec.specs.Run.{limits_for, Outcome, run_of}
use Rattle.spec.specs.declared.Caller.{Caller}
use Rattle.spec.specs.Meaning.{◌⊑◌, Reachable}
use Rattle.laws.specs.Tests.{clash}
use Rattle.steps.specs.Graph.{build-cut, build-whole}
use Rattle.steps.specs.Turned.{turned_built, turned-once}
use Rattle.steps.specs.Run.{Ends, in_building, in_starting, in_rounds, run_ends}
use Rattle.steps.specs.Outcomes.{started-says}
use Rattle.lgg.specs.Pairs.{PairCount}
use Rattle.contract.specs.declared.Answer.TheVariants.{Listing}
use Rattle.contract.specs.Merges.{Merges}
use Rattle.demands.specs.Calls.{passed_over, accepted}
use Rattle.demands.specs.SkippedPairs as S
use Rattle.demands.specs.SkippedPairs.{Joint, MoveWithout, Without, LeastWithout, without-moves, Many, Place, SkippedPlace, many-same, many-none}
use Rattle.demands.proofs.SkippedPairs.{many-over}
use Rattle.demands.specs.Skipped.{AnyMove, aligned, planned, AnyDerivation, least-without-skipped}

-- ---- what the number counts
module _ (who : Caller) (image : List ℕ) (left right : ℕ) where
  abbrev T : Tables
  T = tables_of image

  -- They are counted for the pairs of classes whose check in building passed: each different monomial pair of such a pair under an operation, if it is skipped, once.
  pub counts : (budget : ℕ) → Many (λ x. In x.pair (turned (pairs T) (limits_for who).pairs (left, right) budget) × SkippedPlace T x) (passed_over who image left right budget)
  unfolding skipped_in
  counts budget = many-over T (turned (pairs T) (limits_for who).pairs (left, right) budget) (turned-once (pairs T) (limits_for who).pairs (left, right) budget)

abbrev AnyPlaces : Tables → ℕ → List Two → List Two → Type 0
AnyPlaces t h cs zs = system.Places (pairs t) (AnyMove t) h cs zs

abbrev PlacesWithout : Tables → ℕ → List Two → List Two → Type 0
PlacesWithout t h cs zs = system.Places (pairs t) (MoveWithout t) h cs zs

-- where no reachable pair has a skipped one, every derivation is without them
module _ (t : Tables) (root : Two) (none : (x : Place) → Reachable t root x.pair → SkippedPlace t x → ⊥) where
  keep-move : (p : Two) → Reachable t root p → (ps : List Two) (x : List ℕ) → AnyMove t p ps x → MoveWithout t p ps x
  keep-move p r ps x (aligned a i e f) = S.aligned a i e f
  keep-move p r ps x (planned a J e n) = S.planned a J (λ s. none (record { pair = p; act = a }) r (J, s)) e n

  mutual
    keep : {h : ℕ} {p z : Two} → Reachable t root p → AnyDerivation t h p z → Without t h p z
    keep r (start e) = start e
    keep {p = p} r (action cs x m zs l e) = let w = keep-move p r cs x m in action cs x w zs (keeps (λ c i. joined r ((without-moves t).joined p cs x w c i)) l) e

    keeps : {h : ℕ} {cs zs : List Two} → ((c : Two) → In c cs → Reachable t root c) → AnyPlaces t h cs zs → PlacesWithout t h cs zs
    keeps f no_place = no_place
    keeps f (and_place {p = p} k d l) = and_place k (keep (f p here) d) (keeps (λ c i. f c (there i)) l)

-- ---- of a call that is not refused
module _ (who : Caller) (image : List ℕ) (left right budget : ℕ) (fit : Bool) (out out' : List ℕ) (n : ℕ) (m : Merges who image left right budget fit out out' (Listing n)) where
  abbrev t : Tables
  t = tables_of image

  -- the run behind the listing
  abbrev o : Outcome
  o = (accepted who image left right budget fit out out' n m).o

  abbrev ran : run_of (limits_for who) t (left, right) budget ≡ ok o
  ran = (accepted who image left right budget fit out out' n m).ran

  -- Where the graph is built in full, the number counts the skipped ones of all its pairs.
  abbrev All : Type 0
  All = Many (λ x. Reachable t (left, right) x.pair × SkippedPlace t x) (passed_over who image left right budget)

  counts-built : (ps : List Two) (d : ℕ) → build (limits_for who) t (left, right) budget ≡ ok (passed ps d) → All
  counts-built ps d e =
      let w = build-whole (pairs t) (limits_for who).pairs (left, right) budget d ps e in
      let q = turned_built (pairs t) (limits_for who).pairs (left, right) budget d ps e in
      many-same (λ x. In x.pair (turned (pairs t) (limits_for who).pairs (left, right) budget) × SkippedPlace t x) (λ x. Reachable t (left, right) x.pair × SkippedPlace t x) (passed_over who image left right budget)
      (λ x. ((λ z. ((w.exactly x.pair).0 (subst (λ l. In x.pair l) q z.0), z.1)), λ z. (subst (λ l. In x.pair l) (sym q) ((w.exactly x.pair).1 z.0), z.1)))
      (counts who image left right budget)

  pub counts_all : (k : ℕ) → PairCount t (left, right) k → k ≤ budget → Many (λ x. Reachable t (left, right) x.pair × SkippedPlace t x) (passed_over who image left right budget)
  counts_all k c h = go (run_ends (pairs t) (making (limits_for who) t) (left, right) budget o ran)
    where
      go : Ends (pairs t) (making (limits_for who) t) (left, right) budget o → All
      go (in_building root e s) = absurd (omega (arith, build-cut (pairs t) (limits_for who).pairs (left, right) k c budget e))
      go (in_starting root ps d e l s) = counts-built ps d e
      go (in_rounds ps d j e l f) = counts-built ps d e

  -- .. so in a complete run
  pub counts-complete : o.complete ≡ true → Many (λ x. Reachable t (left, right) x.pair × SkippedPlace t x) (passed_over who image left right budget)
  counts-complete full = go (run_ends (pairs t) (making (limits_for who) t) (left, right) budget o ran)
    where
      go : Ends (pairs t) (making (limits_for who) t) (left, right) budget o → All
      go (in_building root e s) = absurd (clash (sym full ∙ (started-says (pairs t) budget (left, right) root 1 o s).2))
      go (in_starting root ps d e l s) = counts-built ps d e
      go (in_rounds ps d j e l f) = counts-built ps d e

  -- A complete run with `skipped 0` is least among all derivations: none was passed over.
  pub least-of-all : o.complete ≡ true → passed_over who image left right budget ≡ 0 → (h : ℕ) (z : Two) → AnyDerivation t h (left, right) z → o.quality ⊑ z
  least-of-all full zero h z d =
      (least-without-skipped who image left right budget fit out out' n m full).1 h z
      (keep t (left, right) (λ x r s. many-none _ (passed_over who image left right budget) (counts-complete full) zero x (r, s)) (queried refl) d)
