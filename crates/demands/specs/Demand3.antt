-- Demand 3, of calls of `merge`, from their contracts: short and long runs, least derivations, what is reported. Besides a call's contract and budget, `least-after`, `completes` and `pairs-reported` take the number of pairs of its full graph (`pair-count`: there is one).
use Rattle.std.specs.Prelude.{◌≡◌, refl, ◌↔◌, Bool, true, false, List, ◌∷◌, ℕ, ◌+◌, ◌*◌, ◌≤◌, ◌<◌, length, take}
use Rattle.std.proofs.Common.{sym, ap, ap₂, ◌∙◌, arith}
use Rattle.spec.specs.Bytes.{Two, ok, refused, passed}
use Rattle.spec.specs.Image.{Tables, tables_of}
use Rattle.spec.specs.Pairs.{pairs, making}
use Rattle.spec.specs.Graph.{build}
use Rattle.spec.specs.Run.{limits_for, Outcome, run_of}
use Rattle.spec.specs.declared.Caller.{Caller}
use Rattle.spec.specs.Listing.{listing_of}
use Rattle.spec.specs.Meaning.{In, ◌⊑◌, Move, Derivation, Reachable}
use Rattle.laws.specs.Lists.{Distinct}
use Rattle.laws.specs.Results.{ok-inj}
use Rattle.steps.specs.Graph.{build-cut}
use Rattle.steps.specs.Run.{Ends, in_building, in_starting, in_rounds, run_ends}
use Rattle.steps.specs.Outcomes.{root_in, started-says}
use Rattle.steps.specs.Demand3 as D
use Rattle.steps.proofs.Demand3 as P
use Rattle.lgg.specs.Pairs.{PairCount, quality_after, LeastOf, FirstQuiet, Reported}
use Rattle.lgg.specs.Moves.{pair-moves, pair-backs}
use Rattle.lgg.specs.Count.{pair-count as pair-count-of}
use Rattle.lgg.specs.Skipped.{same-skipped}
use Rattle.contract.specs.declared.Answer.{Answer}
use Rattle.contract.specs.declared.Answer.TheVariants.{Listing, Refused}
use Rattle.contract.specs.Merges.{Merges}
use Rattle.demands.specs.Calls.{Taken, shown, accepted}
use Rattle.demands.specs.Refusals.{refused-12, refused-13, listing-where}

-- ---- one call that is not refused
module _ (who : Caller) (image : List ℕ) (left right budget : ℕ) (fit : Bool) (out out' : List ℕ) (n : ℕ) (m : Merges who image left right budget fit out out' (Listing n)) where
  abbrev t : Tables
  t = tables_of image

  -- the run behind the listing
  abbrev o : Outcome
  o = (accepted who image left right budget fit out out' n m).o

  abbrev ran : run_of (limits_for who) t (left, right) budget ≡ ok o
  ran = (accepted who image left right budget fit out out' n m).ran

  -- "After any r finished rounds the queried pair has the quality of one of its derivations of height at most r, and every other has at least as much": for r the rounds reported.
  pub least-of-height : LeastOf t o.rounds (left, right) o.quality
  least-of-height = D.least-of-height (pairs t) (making (limits_for who) t) (Move t) (pair-moves t) (left, right) budget o ran

  -- "After any r finished rounds": of every r, reached or not, for a run that is not cut short in building. The run's quality is the one after the rounds reported.
  pub least-after : (k : ℕ) → PairCount t (left, right) k → k ≤ budget
      → (ps : List Two) × (c : ℕ) × (build (limits_for who) t (left, right) budget ≡ ok (passed ps c)) × (o.quality ≡ quality_after t ps o.rounds (left, right)) × ((r : ℕ) → LeastOf t r (left, right) (quality_after t ps r (left, right)))
  least-after k n h = go (run_ends (pairs t) (making (limits_for who) t) (left, right) budget o ran)
    where
      whole : (ps : List Two) (c : ℕ) → build (limits_for who) t (left, right) budget ≡ ok (passed ps c) → (ps : List Two) × (c : ℕ) × (build (limits_for who) t (left, right) budget ≡ ok (passed ps c)) × (o.quality ≡ quality_after t ps o.rounds (left, right)) × ((r : ℕ) → LeastOf t r (left, right) (quality_after t ps r (left, right)))
      whole ps c e =
          (ps, c, e, D.quality-at (pairs t) (making (limits_for who) t) (left, right) budget c ps e budget o ran, λ r. D.least-after-rounds (pairs t) (making (limits_for who) t) (Move t) (pair-moves t) (left, right) budget c ps e r (left, right) (root_in (pairs t) (limits_for who).pairs (left, right) budget c ps e))

      go : Ends (pairs t) (making (limits_for who) t) (left, right) budget o → (ps : List Two) × (c : ℕ) × (build (limits_for who) t (left, right) budget ≡ ok (passed ps c)) × (o.quality ≡ quality_after t ps o.rounds (left, right)) × ((r : ℕ) → LeastOf t r (left, right) (quality_after t ps r (left, right)))
      go (in_building root e s) = absurd (omega (arith, build-cut (pairs t) (limits_for who).pairs (left, right) k n budget e))
      go (in_starting root ps c e l s) = whole ps c e
      go (in_rounds ps c d e l f) = whole ps c e

  -- "A complete run is least among derivations of every height."
  pub least-of-every-height : o.complete ≡ true → (h : ℕ) (z : Two) → Derivation t h (left, right) z → o.quality ⊑ z
  least-of-every-height = D.least-of-every-height (pairs t) (making (limits_for who) t) (Move t) (pair-moves t) (left, right) budget o ran

  -- "A run whose full graph has n pairs completes with 2n + (n+1)(n+1) checks."
  pub completes : (k : ℕ) → PairCount t (left, right) k → 2 * k + (k + 1) * (k + 1) ≤ budget → o.complete ≡ true
  completes k c h = P.completes (pairs t) (making (limits_for who) t) (pair-backs t) (left, right) k c budget o h ran

  -- Every query has one such n.
  pub pair-count : (k : ℕ) × PairCount t (left, right) k × ((j : ℕ) → PairCount t (left, right) j → j ≡ k)
  pair-count = pair-count-of t (left, right)

  -- "A run cut short in building reports 1 pair, any other run n."
  pub pairs-reported : (k : ℕ) → PairCount t (left, right) k → (budget < k → o.nodes ≡ 1) × (k ≤ budget → o.nodes ≡ k)
  pairs-reported k c = D.nodes-reported (pairs t) (making (limits_for who) t) (left, right) k c budget o ran

  -- "Pairs and rounds are reported as document 01 counts them": a run cut short in building; or the graph is built in full, R is its first round without change, and pairs, rounds and status follow from n, R and the budget (`Reported`).
  pub data Reports : Type 0 where
    cut_in_building : (k : ℕ) → PairCount t (left, right) k → budget < k → (o.nodes ≡ 1) × (o.rounds ≡ 0) × (o.complete ≡ false) → Reports
    built : (ps : List Two) → ((rest : List Two) × (ps ≡ (left, right) ∷ rest)) × Distinct ps × ((q : Two) → In q ps ↔ Reachable t (left, right) q)
        → (R : ℕ) → R ≤ length ps → FirstQuiet t ps R → Reported t (left, right) ps (length ps) R budget o → Reports

  pub reported : Reports
  reported = go (run_ends (pairs t) (making (limits_for who) t) (left, right) budget o ran)
    where
      whole : (ps : List Two) (c : ℕ) → build (limits_for who) t (left, right) budget ≡ ok (passed ps c) → Reports
      whole ps c k =
          let (R, l, q) = P.first-quiet (pairs t) (limits_for who).pairs (pair-backs t) (left, right) budget c ps k in
          built ps (D.graph (pairs t) (limits_for who).pairs (left, right) budget c ps k) R l q (D.reported (pairs t) (making (limits_for who) t) (left, right) budget c ps k R q budget o ran)

      go : Ends (pairs t) (making (limits_for who) t) (left, right) budget o → Reports
      go (in_building root k s) =
          let (j, c, _) = pair-count-of t (left, right) in
          let (a, b, d, _) = started-says (pairs t) budget (left, right) root 1 o s in
          cut_in_building j c (build-cut (pairs t) (limits_for who).pairs (left, right) j c budget k) (a, b, d)
      go (in_starting root ps c k l s) = whole ps c k
      go (in_rounds ps c d k l f) = whole ps c k

-- ---- a short and a long call: the same caller, image and classes, budgets b ≤ c; each has its own buffers
module _ (who : Caller) (image : List ℕ) (left right b c : ℕ) (h : b ≤ c) (fit fit₂ : Bool) (out out' out₂ out₂' : List ℕ) where
  module _ (n : ℕ) (short : Merges who image left right b fit out out' (Listing n)) where
    abbrev s : Outcome
    s = o who image left right b fit out out' n short

    module _ (k : ℕ) (long : Merges who image left right c fit₂ out₂ out₂' (Listing k)) where
      abbrev l : Outcome
      l = o who image left right c fit₂ out₂ out₂' k long

      -- "The long run's size, then mass, is never above the short one's."
      pub never-above : l.quality ⊑ s.quality
      never-above = D.never-above (pairs (tables_of image)) (making (limits_for who) (tables_of image)) (left, right) b c s l h (ran who image left right b fit out out' n short) (ran who image left right c fit₂ out₂ out₂' k long)

      -- "A complete short run makes a complete long one with the same bytes": the same outcome, so it is complete, and its listing has the same bytes.
      pub same-run : s.complete ≡ true → l ≡ s
      same-run e = ok-inj (sym (ran who image left right c fit₂ out₂ out₂' k long) ∙ D.stays-complete (pairs (tables_of image)) (making (limits_for who) (tables_of image)) (left, right) b c s h (ran who image left right b fit out out' n short) e)

      pub stays-complete : s.complete ≡ true → l.complete ≡ true
      stays-complete e = ap (λ (z : Outcome). z.complete) (same-run e) ∙ e

      pub same-bytes : s.complete ≡ true → (k ≡ n) × (take k out₂' ≡ take n out')
      same-bytes e =
          let a = accepted who image left right b fit out out' n short in
          let z = accepted who image left right c fit₂ out₂ out₂' k long in
          let q : shown who image left right c l ≡ shown who image left right b s = ap₂ listing_of (same-skipped (limits_for who) (tables_of image) (left, right) b c s h a.ran e) (same-run e) in
          (z.long ∙ ap length q ∙ sym a.long, z.listed ∙ q ∙ sym a.listed)

    -- .. and the long one is not refused, where no work buffer is too short and the output has room for the short one's listing
    pub long-answers : s.complete ≡ true → (r : Answer) → Merges who image left right c fit₂ out₂ out₂' r → fit₂ ≡ true → n ≤ length out₂ → (k : ℕ) × (r ≡ Listing k)
    long-answers e r m f w =
        let a = accepted who image left right b fit out out' n short in
        (listing-where who image left right c fit₂ out₂ out₂' r m).1
        (record { fits = f; sound = a.taken.sound; asked = a.taken.asked }, (s, D.stays-complete (pairs (tables_of image)) (making (limits_for who) (tables_of image)) (left, right) b c s h a.ran e, rw (same-skipped (limits_for who) (tables_of image) (left, right) b c s h a.ran e, ← a.long) w))

  -- A short run that is refused by 12 or 13 makes a long one refused by the same number, where no work buffer is too short.
  stays : (k : ℕ) (r₂ : Answer) → fit₂ ≡ true → (Taken fit₂ image left right × (run_of (limits_for who) (tables_of image) (left, right) c ≡ refused k) → r₂ ≡ Refused k)
      → Taken fit image left right × (run_of (limits_for who) (tables_of image) (left, right) b ≡ refused k) → r₂ ≡ Refused k
  stays k r₂ f g (T, e) = g (record { fits = f; sound = T.sound; asked = T.asked }, D.stays-refused (pairs (tables_of image)) (making (limits_for who) (tables_of image)) (left, right) b c k h e)

  pub stays-refused-12 : Merges who image left right b fit out out' (Refused 12) → (r₂ : Answer) → Merges who image left right c fit₂ out₂ out₂' r₂ → fit₂ ≡ true → r₂ ≡ Refused 12
  stays-refused-12 m r₂ m₂ f = stays 12 r₂ f (refused-12 who image left right c fit₂ out₂ out₂' r₂ m₂).1 ((refused-12 who image left right b fit out out' (Refused 12) m).0 refl)

  pub stays-refused-13 : Merges who image left right b fit out out' (Refused 13) → (r₂ : Answer) → Merges who image left right c fit₂ out₂ out₂' r₂ → fit₂ ≡ true → r₂ ≡ Refused 13
  stays-refused-13 m r₂ m₂ f = stays 13 r₂ f (refused-13 who image left right c fit₂ out₂ out₂' r₂ m₂).1 ((refused-13 who image left right b fit out out' (Refused 13) m).0 refl)
