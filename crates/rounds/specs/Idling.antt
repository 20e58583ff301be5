-- A pair that is not live has no turn: what the round gives it is there already, since the end of the round before.
use Rattle.std.specs.Prelude.{◌≡◌, ◌⊎◌, Bool, true, false, List, ltb, length, get_or, replicate}
use Rattle.std.proofs.Common.{sym, ap, ap₂, ◌∙◌, inl, inr, not-suc-le-zero, eq-or-lt_of_le, arith}
use Prim.Native.Nat.{ℕ, zero, suc, ◌+◌, ◌*◌, ◌≤◌, ◌<◌}
use Rattle.std.proofs.lemmas.List.{get_or-replicate}
use Rattle.spec.specs.Bytes.{both, Two}
use Rattle.spec.specs.Image.{Tables}
use Rattle.laws.specs.Tests.{clash}
use Rattle.laws.specs.Valid.{Valid}
use Rattle.laws.specs.Lists.{get_in}
use Rattle.arrays.specs.Arrays.{given}
use Rattle.arrays.specs.ArrayLaws.{given-other, given-size, given-mass, given-term}
use Rattle.live_pairs.specs.Live.{live_in}
use Rattle.pair_settling.specs.Settling.{settled_at, settled, Ends}
use Rattle.pair_settling.specs.SettleLaws.{settled-length, settled-new}
use Rattle.visits.specs.Visiting.{Idle}
use Rattle.rounds.specs.Graphs.{InRange}

-- every pair of ps from k on that is not live has what the round gives it
abbrev pub Idles : List Two → List ℕ → List ℕ → List ℕ → ℕ → Type 0
Idles ps pairs llive rlive k = (j : ℕ) → k ≤ j → j < length ps → live_in llive rlive (get_or ps j (0, 0)) ≡ false → Idle pairs j

-- pair k has had its turn
pub idles-more : (ps : List Two) (pairs llive rlive : List ℕ) (k : ℕ) → Idles ps pairs llive rlive k → (pairs' : List ℕ) (size mass term : ℕ) → pairs' ≡ given pairs (6 * k + 3) size mass term → Idles ps pairs' llive rlive (k + 1)
idles-more ps pairs llive rlive k I pairs' size mass term e j h l z =
    let (a, b, c) = I j (omega arith) l z in
    let same : (i : ℕ) → 6 * k + 6 ≤ i → get_or pairs' i 0 ≡ get_or pairs i 0 = λ i m. ap (λ (p : List ℕ). get_or p i 0) e ∙ given-other pairs (6 * k + 3) size mass term i (omega arith) (omega arith) (omega arith) in (
      same (6 * j + 3) (omega arith) ∙ a ∙ sym (same (6 * j) (omega arith)),
      same (6 * j + 4) (omega arith) ∙ b ∙ sym (same (6 * j + 1) (omega arith)),
      same (6 * j + 5) (omega arith) ∙ c ∙ sym (same (6 * j + 2) (omega arith)),
    )

-- ---- before the first round every class is live
pub idles-first : (t : Tables) → Valid t → (ps : List Two) → InRange t ps → (pairs : List ℕ) → Idles ps pairs (replicate 256 1) (replicate 256 1) 0
idles-first t v ps r pairs j h l e =
    let i = r (get_or ps j (0, 0)) (get_in (0, 0) ps j l) in
    absurd (clash (sym (ap₂ (λ (a b : Bool). both a b) (marked (get_or ps j (0, 0)).0 i.0) (marked (get_or ps j (0, 0)).1 i.1)) ∙ e))
  where
    marked : (c : ℕ) → c < length t.classes → ltb 0 (get_or (replicate 256 1) c 0) ≡ true
    marked c m = ap (ltb 0) (get_or-replicate 256 c 1 0 (omega (arith, v.counts.few_classes)))

-- ---- after a round every pair has what the round gave it
module _ (pairs : List ℕ) where
  -- pair j has in the array l what the round gave it
  abbrev Old : List ℕ → ℕ → Type 0
  Old l j = (get_or l (6 * j) 0 ≡ get_or pairs (6 * j + 3) 0) × (get_or l (6 * j + 1) 0 ≡ get_or pairs (6 * j + 4) 0) × (get_or l (6 * j + 2) 0 ≡ get_or pairs (6 * j + 5) 0)

  settled_here : (n : ℕ) → 6 * n + 2 < length pairs → (l : List ℕ) → length l ≡ length pairs → Old (settled_at l pairs n) n
  settled_here n room l e =
      let h : 6 * n + 2 < length l = omega arith in (
        given-size l (6 * n) (get_or pairs (6 * n + 3) 0) (get_or pairs (6 * n + 4) 0) (get_or pairs (6 * n + 5) 0) h,
        given-mass l (6 * n) (get_or pairs (6 * n + 3) 0) (get_or pairs (6 * n + 4) 0) (get_or pairs (6 * n + 5) 0) h,
        given-term l (6 * n) (get_or pairs (6 * n + 3) 0) (get_or pairs (6 * n + 4) 0) (get_or pairs (6 * n + 5) 0) h,
      )

  settled-other : (n : ℕ) (l : List ℕ) (i : ℕ) → i < 6 * n → get_or (settled_at l pairs n) i 0 ≡ get_or l i 0
  settled-other n l i h = given-other l (6 * n) (get_or pairs (6 * n + 3) 0) (get_or pairs (6 * n + 4) 0) (get_or pairs (6 * n + 5) 0) i (omega arith) (omega arith) (omega arith)

  settled-old : (n j : ℕ) → 6 * n ≤ length pairs → j < n → Old (settled pairs n) j
  unfolding settled
  settled-old zero j room h = absurd (not-suc-le-zero h)
  settled-old (suc n) j room h = go (eq-or-lt_of_le {n = j} {m = n} (omega arith)) (settled-old n j (omega arith))
    where
      go : (j ≡ n) ⊎ (j < n) → (j < n → Old (settled pairs n) j) → Old (settled_at (settled pairs n) pairs n) j
      go (inl q) ih = rw q (settled_here n (omega arith) (settled pairs n) (settled-length pairs n))
      go (inr l) ih =
          let (a, b, c) = ih l in
          (settled-other n (settled pairs n) (6 * j) (omega arith) ∙ a, settled-other n (settled pairs n) (6 * j + 1) (omega arith) ∙ b, settled-other n (settled pairs n) (6 * j + 2) (omega arith) ∙ c)

  settled-idle : (n j : ℕ) → 6 * n ≤ length pairs → j < n → Idle (settled pairs n) j
  settled-idle n j room h =
      let (a, b, c) = settled-old n j room h in
      let x : 6 * j + 3 ≡ 6 * j + 3 + 0 = omega arith in
      let y : 6 * j + 4 ≡ 6 * j + 3 + 1 = omega arith in
      let z : 6 * j + 5 ≡ 6 * j + 3 + 2 = omega arith in
      let new : (i d : ℕ) → d < 3 → i ≡ 6 * j + 3 + d → get_or (settled pairs n) i 0 ≡ get_or pairs i 0 = λ i d l e. ap (λ (m : ℕ). get_or (settled pairs n) m 0) e ∙ settled-new pairs n j d l ∙ ap (λ (m : ℕ). get_or pairs m 0) (sym e) in
      (new (6 * j + 3) 0 (omega arith) x ∙ sym a, new (6 * j + 4) 1 (omega arith) y ∙ sym b, new (6 * j + 5) 2 (omega arith) z ∙ sym c)

pub idles-after : (t : Tables) (w : ℕ) (graph : List ℕ) (ps : List Two) (n : ℕ) → length ps ≡ n → (pairs llive rlive pairs' llive' rlive' : List ℕ) → Ends t w graph n pairs llive rlive pairs' llive' rlive' → 6 * n ≤ length pairs → Idles ps pairs' llive' rlive' 0
idles-after t w graph ps n many pairs llive rlive pairs' llive' rlive' X room j h l z = rw X.pairs (settled-idle pairs n j room (omega arith))
