-- Pairs that are not live are passed over: a check each, as if each had its turn.
use Rattle.std.specs.Prelude.{◌≡◌, refl, Bool, false, List, ℕ, zero, suc, ◌+◌, ◌-◌, ◌≤◌, ◌<◌, length, get_or}
use Rattle.std.proofs.Common.{sym, arith}
use Rattle.std.proofs.Math.Decide.{dec_lt}
use Rattle.spec.specs.Bytes.{Limits, Two, Res, Checked}
use Rattle.spec.specs.Image.{Tables}
use Rattle.spec.specs.Round.{Terms}
use Rattle.spec.specs.Run.{State}
use Rattle.laws.specs.Firsts.{first-within, first-skips}
use Rattle.laws.specs.Tests.{either-false}
use Rattle.steps.specs.Standing.{Standing}
use Rattle.lgg.specs.Stands.{Fits}
use Rattle.live_pairs.specs.Live.{live_in, next_live, due_of}
use Rattle.live_pairs.specs.LiveLaws.{due-idle, due-live}
use Rattle.settling.specs.Quiet.{Quiet}
use Rattle.visits.specs.VisitLaws.{idle-moved}
use Rattle.rounds.specs.Graphs.{Graphs, number-here}
use Rattle.rounds.specs.Idling.{Idles}
use Rattle.rounds.specs.Turning.{Turning, Stays, turn-cut, turn_moved, quiet-here}

-- no step goes past the last pair
due-within : (k j n : ℕ) → k < n → j ≤ n → Dec (k < j) → k + due_of k j ≤ n
due-within k j n h l (yes q) = omega (arith, due-idle k j q)
due-within k j n h l (no q) = omega (arith, due-live k j (omega arith))

-- where too few checks are left, every pair that still has one is not live
due-before : (k j b i : ℕ) → b < due_of k j → k ≤ i → i < k + b → Dec (k < j) → i < j
due-before k j b i h l m (yes q) = omega (arith, due-idle k j q)
due-before k j b i h l m (no q) = absurd (omega (arith, due-live k j (omega arith)))

module _ (lim : Limits) (t : Tables) (ps : List Two) (s : State) (whole : Res (Checked Terms)) (pairs terms runs : List ℕ) (changed : Bool) (w : ℕ) (graph : List ℕ) (G : Graphs lim t w ps (length ps) graph) (S : Standing Fits ps s) (llive rlive : List ℕ) (Q : Quiet t ps s.qualities llive rlive) where
  -- pair k is not live
  pass-one : (k b c : ℕ) → k < length ps → b ≡ c + 1 → Idles ps pairs llive rlive k → live_in llive rlive (get_or ps k (0, 0)) ≡ false → Turning lim t ps s whole pairs terms runs k b changed → Turning lim t ps s whole pairs terms runs (k + 1) c changed
  pass-one k b c h e I q X =
      let p = get_or ps k (0, 0) in
      turn_moved lim t ps s whole pairs terms runs k b changed h X w graph G p refl S c pairs terms runs false changed e
      (idle-moved lim t w graph pairs p k terms runs (number-here lim t w ps (length ps) graph G k h p refl) (quiet-here lim t w ps (length ps) graph G k h p refl s pairs X.reads llive rlive Q q) X.holds (I k (omega arith) h q))
      (sym (either-false changed))

  -- m pairs from k on are not live
  pass-over : (m k b : ℕ) → k + m ≤ length ps → m ≤ b → Idles ps pairs llive rlive k → ((i : ℕ) → k ≤ i → i < k + m → live_in llive rlive (get_or ps i (0, 0)) ≡ false) → Turning lim t ps s whole pairs terms runs k b changed → Turning lim t ps s whole pairs terms runs (k + m) (b - m) changed
  pass-over zero k b h l I q X = let e : k + 0 ≡ k = omega arith in let f : b - 0 ≡ b = omega arith in rw (e, f) X
  pass-over (suc m) k b h l I q X =
      let e : k + 1 + m ≡ k + suc m = omega arith in
      let f : b - 1 - m ≡ b - suc m = omega arith in
      let one = pass-one k b (b - 1) (omega arith) (omega arith) I (q k (omega arith) (omega arith)) X in
      rw (e, f) at (pass-over m (k + 1) (b - 1) (omega arith) (omega arith) (λ j a. I j (omega arith)) (λ i a z. q i (omega arith) (omega arith)) one)

  -- ---- a step from pair k, where j is the next live one
  module _ (k b : ℕ) (h : k < length ps) (j : ℕ) (is : j ≡ next_live ps llive rlive k (length ps)) (I : Idles ps pairs llive rlive k) (X : Turning lim t ps s whole pairs terms runs k b changed) where
    abbrev f : ℕ → Bool
    f i = live_in llive rlive (get_or ps i (0, 0))

    within : j ≤ length ps
    within = omega (arith, is, first-within f k (length ps) (omega arith))

    idle : (i : ℕ) → k ≤ i → i < j → f i ≡ false
    idle i l m = first-skips f k (length ps) (omega arith) i l (omega (arith, is))

    pub step_cut : b < due_of k j → Stays lim ps s whole pairs terms runs
    step_cut l =
        let d = due-within k j (length ps) h within (dec_lt k j) in
        let e : b - b ≡ 0 = omega arith in
        turn-cut lim t ps s whole pairs terms runs (k + b) (b - b) changed (omega arith) (pass-over b k b (omega arith) (omega arith) I (λ i a z. idle i a (due-before k j b i l a z (dec_lt k j))) X) e

    pub step-over : k < j → (c : ℕ) → b ≡ c + due_of k j → (j ≤ length ps) × Turning lim t ps s whole pairs terms runs j c changed × Idles ps pairs llive rlive j
    step-over l c e =
        let d = due-idle k j l in
        let x : k + (j - k) ≡ j = omega arith in
        let y : b - (j - k) ≡ c = omega arith in
        (within, rw (x, y) at (pass-over (j - k) k b (omega (arith, within)) (omega arith) I (λ i a z. idle i a (omega arith)) X), λ i a. I i (omega arith))
