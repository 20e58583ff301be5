-- Pairs under larger limits: a run that is not refused, and a call that is not refused by 12 or 13, is the same; so is one refused by 12 where as many pairs may be entered, and one not refused by 12 where only more pairs may be.
use Rattle.std.specs.Prelude.{◌≡◌, refl, ◌⊎◌, Bool, true, false, ℕ, ◌≤◌, ltb, leb, length}
use Rattle.std.proofs.Common.{sym, ◌∙◌, inl, inr, arith}
use Rattle.std.proofs.Math.Path.{ap}
use mathlib.Core.List.{List, map}
use Rattle.spec.specs.Bytes.{both, sum, Two, Limits, Res, ok, refused, ◌>>=◌, rule}
use Rattle.spec.specs.Image.{Tables, image_of}
use Rattle.spec.specs.Action.{skipped_at}
use Rattle.spec.specs.Pairs.{pairs, making}
use Rattle.spec.specs.Graph.{skipped_in}
use Rattle.spec.specs.Run.{limit_of, Outcome, run_of}
use Rattle.spec.specs.Listing.{listing_of}
use Rattle.spec.specs.Merge.{merge_under}
use Rattle.spec.specs.declared.Caller.{Caller}
use Rattle.spec.specs.declared.Caller.TheVariants.{Page, Desk}
use Rattle.laws.specs.Results.{refused-ok, refused-inj, Kept, kept-ok}
use Rattle.pools.specs.Refused.{NoLess, start-only, action-only, start-larger, action-larger}
use Rattle.steps.specs.Refusals.{Refuses13, run-refused}
use Rattle.steps.specs.Limits.{Roomier, Wider, run-kept, run-turned, run-twelve, run-or-twelve}

-- either caller's limit is at most 4,096
pub limit-most : (who : Caller) → limit_of who ≤ 4096
limit-most Page = omega arith
limit-most Desk = omega arith

-- ---- the pairs' terms: refused by 13 alone, and kept under larger limits
pub refuses13 : (lim : Limits) (t : Tables) → Refuses13 (making lim t)
refuses13 lim t = record { start = start-only lim t; action = action-only lim t }

roomier : (l m : Limits) → l.terms ≤ m.terms → l.runs ≤ m.runs → (t : Tables) → Roomier (making l t) (making m t)
roomier l m a b t = record { start = start-larger l m a b t; action = action-larger l m a b t }

-- ---- calls under two limits: they differ in their runs alone, with what these skipped
abbrev shown : ℕ → ℕ → Outcome → Res (List ℕ)
shown room k o = rule 14 (leb (length (listing_of k o)) room) >>= λ _. ok (listing_of k o)

-- how a call ends after a run
abbrev ended : ℕ → ℕ → ℕ → ℕ → Limits → Tables → Res Outcome → Res (List ℕ)
ended left right budget room k t x = x >>= shown room (skipped_in k t (left, right) budget)

module _ (l m : Limits) (fit : Bool) (image : List ℕ) (left right budget room : ℕ) where
  -- What holds of a refusal and itself, and of the ends after the two runs, holds of the two calls.
  by_runs : (P : Res (List ℕ) → Res (List ℕ) → Type 0) → ((n : ℕ) → P (refused n) (refused n)) → ((t : Tables) → P (ended left right budget room l t (run_of l t (left, right) budget)) (ended left right budget room m t (run_of m t (left, right) budget)))
      → P (merge_under l fit image left right budget room) (merge_under m fit image left right budget room)
  unfolding merge_under
  by_runs P alike runs = first (rule 1 fit)
    where
      rest : Tables → Limits → Res (List ℕ)
      rest t k = rule 11 (both (ltb left (length t.classes)) (ltb right (length t.classes))) >>= λ _. ended left right budget room k t (run_of k t (left, right) budget)

      third : (t : Tables) (x : Res Unit) → P (x >>= λ _. ended left right budget room l t (run_of l t (left, right) budget)) (x >>= λ _. ended left right budget room m t (run_of m t (left, right) budget))
      third t (ok u) = runs t
      third t (refused n) = alike n

      second : (x : Res Tables) → P (x >>= λ t. rest t l) (x >>= λ t. rest t m)
      second (ok t) = third t (rule 11 (both (ltb left (length t.classes)) (ltb right (length t.classes))))
      second (refused n) = alike n

      first : (x : Res Unit) → P (x >>= λ _. image_of image >>= λ t. rest t l) (x >>= λ _. image_of image >>= λ t. rest t m)
      first (ok u) = second (image_of image)
      first (refused n) = alike n

module _ (l m : Limits) (h : NoLess l m) where
  wider : (t : Tables) → Wider (making l t) (making m t)
  wider t = record { nodes = h.pairs; terms = roomier l m h.terms h.runs t }

  kept : (t : Tables) (p : Two) (b : ℕ) → Kept (run_of l t p b) (run_of m t p b)
  kept t p b = run-kept (pairs t) (making l t) (making m t) (wider t) p b

  -- A run that is not refused has the same outcome under larger limits: status, pairs, rounds, quality, pool and term.
  pub run-same : (t : Tables) (p : Two) (b : ℕ) (o : Outcome) → run_of l t p b ≡ ok o → run_of m t p b ≡ ok o
  run-same t p b o e = kept-ok (run_of l t p b) (run_of m t p b) o (kept t p b) e

  -- So is the number of monomial pairs passed over.
  pub skipped-same : (t : Tables) (p : Two) (b : ℕ) (o : Outcome) → run_of l t p b ≡ ok o → skipped_in m t p b ≡ skipped_in l t p b
  unfolding skipped_in
  skipped-same t p b o e = ap (λ (ps : List Two). sum (map (skipped_at t) ps)) (run-turned (pairs t) (making l t) (making m t) (wider t) p b o e)

  -- So is the whole call the same, unless it is refused by 12 or 13: its listing, and every other refusal.
  pub merge-same : (fit : Bool) (image : List ℕ) (left right budget room : ℕ) (r : Res (List ℕ)) → merge_under l fit image left right budget room ≡ r
      → ((r ≡ refused 12) → ⊥) → ((r ≡ refused 13) → ⊥) → merge_under m fit image left right budget room ≡ r
  merge-same fit image left right budget room r e n12 n13 = by_runs l m fit image left right budget room (λ x y. x ≡ r → y ≡ r) (λ n z. z) (λ t. go t (run_of l t (left, right) budget) (run_of m t (left, right) budget) (kept t (left, right) budget) refl) e
    where
      go : (t : Tables) (x y : Res Outcome) → Kept x y → run_of l t (left, right) budget ≡ x → ended left right budget room l t x ≡ r → ended left right budget room m t y ≡ r
      go t (ok o) y k z e = rw (k, skipped-same t (left, right) budget o z) e
      go t (refused n) y k z e = elim (run-refused (pairs t) (making l t) (refuses13 l t) (left, right) budget n z) [
        | inl w ↦ absurd (n12 (sym e ∙ ap {B = Res (List ℕ)} refused w.0))
        | inr w ↦ absurd (n13 (sym e ∙ ap {B = Res (List ℕ)} refused w))
      ]

  -- Refusal 12 where as many pairs may be entered: it is met in building, before which only the root's starting term is made.
  pub merge-twelve : l.pairs ≡ m.pairs → (fit : Bool) (image : List ℕ) (left right budget room : ℕ) → merge_under l fit image left right budget room ≡ refused 12 → merge_under m fit image left right budget room ≡ refused 12
  merge-twelve same fit image left right budget room = by_runs l m fit image left right budget room (λ x y. x ≡ refused 12 → y ≡ refused 12) (λ n z. z) (λ t. go t (run_of l t (left, right) budget) (run_of m t (left, right) budget) (run-twelve (pairs t) (making l t) (making m t) (wider t) (refuses13 l t) same (left, right) budget))
    where
      -- no listing is refused by 12
      last : (x : Bool) (z : List ℕ) → (rule 14 x >>= λ _. ok z) ≡ refused 12 → ⊥
      last true z e = refused-ok (sym e)
      last false z e = let n : ◌≡◌ {A = ℕ} 14 12 = refused-inj e in omega arith

      go : (t : Tables) (x y : Res Outcome) → (x ≡ refused 12 → y ≡ refused 12) → ended left right budget room l t x ≡ refused 12 → ended left right budget room m t y ≡ refused 12
      go t (ok o) y k e = absurd (last (leb (length (listing_of (skipped_in l t (left, right) budget) o)) room) (listing_of (skipped_in l t (left, right) budget) o) e)
      go t (refused n) y k e = rw (k (ap {B = Res Outcome} refused (refused-inj e))) refl

-- More pairs alone: a call is refused by 12, or it ends the same, be it with a listing or with another refusal.
pub merge-or-twelve : (l m : Limits) → l.pairs ≤ m.pairs → l.terms ≡ m.terms → l.runs ≡ m.runs → (fit : Bool) (image : List ℕ) (left right budget room : ℕ)
    → (merge_under l fit image left right budget room ≡ refused 12) ⊎ (merge_under l fit image left right budget room ≡ merge_under m fit image left right budget room)
merge-or-twelve l m a b c fit image left right budget room =
    by_runs l m fit image left right budget room (λ x y. (x ≡ refused 12) ⊎ (x ≡ y)) (λ n. inr refl)
    (λ t. go t (run_of l t (left, right) budget) refl (run-or-twelve (pairs t) (making l t) (making m t) (wider l m h t) (roomier m l (omega arith) (omega arith) t) (refuses13 l t) (refuses13 m t) (left, right) budget))
  where
    h : NoLess l m
    h = record { pairs = a; terms = omega arith; runs = omega arith }

    go : (t : Tables) (x : Res Outcome) → run_of l t (left, right) budget ≡ x → (x ≡ refused 12) ⊎ (x ≡ run_of m t (left, right) budget)
        → (ended left right budget room l t x ≡ refused 12) ⊎ (ended left right budget room l t x ≡ ended left right budget room m t (run_of m t (left, right) budget))
    go t x z (inl e) = inl (rw e refl)
    go t (ok o) z (inr e) = inr (rw (← e, skipped-same l m h t (left, right) budget o z) refl)
    go t (refused n) z (inr e) = inr (rw (← e) refl)
