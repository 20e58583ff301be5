-- Turns that cannot improve are skipped: a pair that is not live keeps what it has.
use Rattle.std.specs.Prelude.{◌≡◌, refl, Bool, true, false, List, map, ℕ, ◌+◌, ◌*◌, ◌≤◌, ◌<◌, ltb, length, get_or, replicate}
use Rattle.std.proofs.Common.{sym, ap, ap₂, ◌∙◌, arith}
use Rattle.std.proofs.lemmas.List.{get_or-replicate, length-replicate}
use Rattle.spec.specs.Bytes.{both, any, place, Two, same_two}
use Rattle.spec.specs.Image.{Tables}
use Rattle.spec.specs.System as system
use Rattle.spec.specs.Pairs as P
use Rattle.spec.specs.Pairs.{same-eq, two-decides}
use Rattle.spec.specs.Round.{look_up, stay, Turn, turn_of, turns_of}
use Rattle.spec.specs.Meaning.{In}
use Rattle.laws.specs.Tests.{clash}
use Rattle.laws.specs.Valid.{Valid}
use Rattle.laws.specs.BestMembers.{IsPair}
use Rattle.laws.specs.Lists.{get_in, map-map, look-up, place_in}
use Rattle.lgg.specs.Parts.{parts_of, stays}
use Rattle.pools.specs.PoolIntern.{place-passes}
use Rattle.steps.specs.Graph.{Closed}
use Rattle.changes.specs.Marks.{marked_in}
use Rattle.changes.specs.MarkLaws.{live_at}
use Rattle.arrays.specs.Arrays.{unkey, pairs_in, NEW, qualities_in}
use Rattle.arrays.specs.ArrayLaws.{unkeyed-length, unkeyed-at}
use Rattle.live_pairs.specs.Live.{live_in}
use Rattle.pair_settling.specs.Settling.{differs_at, left, right, marks_of, Ends}
use Rattle.pair_settling.specs.SettleLaws.{marks-made, same-quality, settled-qualities}

-- a turn that keeps the quality z
abbrev pub unturned : Two → Turn
unturned z = record { quality = z; choice = stay }

-- over the qualities qs: a pair that is not live keeps what it has
abbrev pub Quiet : Tables → List Two → List Two → List ℕ → List ℕ → Type 0
Quiet t ps qs llive rlive = (p : Two) → In p ps → live_in llive rlive p ≡ false → turn_of t (look_up (0, 0) ps qs) p ≡ unturned (look_up (0, 0) ps qs p)

-- ---- before the first round every class is live
module _ (t : Tables) (v : Valid t) (ps : List Two) (i : (p : Two) → In p ps → IsPair t p) where
  all-marked : (c : ℕ) → c < length t.classes → marked_in (replicate 256 1) c ≡ true
  all-marked c h = ap (ltb 0) (get_or-replicate 256 c 1 0 (omega (arith, v.counts.few_classes)))

  pub quiet-first : (qs : List Two) (llive rlive : List ℕ) → llive ≡ replicate 256 1 → rlive ≡ replicate 256 1 → Quiet t ps qs llive rlive
  quiet-first qs llive rlive el er = λ p j e.
      let z : live_in llive rlive p ≡ true = rw (el, er) (ap₂ (λ (a b : Bool). both a b) (all-marked p.0 (i p j).0) (all-marked p.1 (i p j).1)) in
      absurd (clash (sym z ∙ e))

  -- ---- after a round: what joins no pair that changed keeps what it has
  module _ (closed : Closed (P.pairs t) ps) (qs qs' : List Two) (next : qs' ≡ map (λ w. w.quality) (turns_of t ps qs)) (lmarks rmarks : List ℕ)
      (same : (x : Two) → In x ps → live_in lmarks rmarks x ≡ false → look_up (0, 0) ps qs' x ≡ look_up (0, 0) ps qs x) where
    abbrev q : Two → Two
    q = look_up (0, 0) ps qs

    abbrev q' : Two → Two
    q' = look_up (0, 0) ps qs'

    turned : (x : Two) → In x ps → q' x ≡ (turn_of t q x).quality
    unfolding system.turns_of
    turned x j = rw (next ∙ map-map (turn_of t q) (λ w. w.quality) ps) (look-up two-decides (0, 0) (λ y. (turn_of t q y).quality) ps x j)

    quiet_next : (llive rlive : List ℕ) → ((c : ℕ) → c < length t.classes → marked_in llive c ≡ any (marked_in lmarks) (parts_of t c)) → ((c : ℕ) → c < length t.classes → marked_in rlive c ≡ any (marked_in rmarks) (parts_of t c)) → Quiet t ps qs' llive rlive
    quiet_next llive rlive a b = λ p j e.
        stays t v (marked_in lmarks) (marked_in rmarks) q q' p (turned p j) (λ x k z. same x (closed p x j k) z) (sym (ap₂ (λ (c d : Bool). both c d) (a p.0 (i p j).0) (b p.1 (i p j).1)) ∙ e)

-- ---- a pair whose classes are not both marked was given the quality that it had
module _ (t : Tables) (v : Valid t) (w : ℕ) (graph : List ℕ) (n : ℕ) (i : (p : Two) → In p (pairs_in w graph n) → IsPair t p) (pairs : List ℕ) where
  abbrev ps : List Two
  ps = pairs_in w graph n

  abbrev lmarks : List ℕ
  lmarks = marks_of left w graph pairs (replicate 256 0) n

  abbrev rmarks : List ℕ
  rmarks = marks_of right w graph pairs (replicate 256 0) n

  many : length ps ≡ n
  many = unkeyed-length graph (w * w) n

  -- the classes of pair k
  pair-k : (k : ℕ) → k < n → IsPair t (unkey (get_or graph (w * w + k) 0))
  pair-k k h =
      let e = unkeyed-at graph (w * w) n k h in
      let z = i (get_or ps k (0, 0)) (get_in (0, 0) ps k (omega (arith, many))) in
      (omega (arith, z.0, ap (λ (p : Two). p.0) e), omega (arith, z.1, ap (λ (p : Two). p.1) e))

  inside : (k : ℕ) → k < n → (left (unkey (get_or graph (w * w + k) 0)) < length (replicate {A = ℕ} 256 0)) × (right (unkey (get_or graph (w * w + k) 0)) < length (replicate {A = ℕ} 256 0))
  inside k h = rw (length-replicate {A = ℕ} 256 0) (omega (arith, (pair-k k h).0, v.counts.few_classes), omega (arith, (pair-k k h).1, v.counts.few_classes))

  unmarked : (x : Two) → In x ps → live_in lmarks rmarks x ≡ false → look_up (0, 0) ps (qualities_in pairs NEW n) x ≡ look_up (0, 0) ps (qualities_in pairs 0 n) x
  unmarked x j e = go (differs_at pairs k) refl
    where
      k : ℕ
      k = place (same_two x) ps

      h : k < n
      h = omega (arith, place_in two-decides x ps j, many)

      is : x ≡ unkey (get_or graph (w * w + k) 0)
      is = same-eq x (get_or ps k (0, 0)) (place-passes (same_two x) (0, 0) ps (place_in two-decides x ps j)) ∙ unkeyed-at graph (w * w) n k h

      go : (b : Bool) → differs_at pairs k ≡ b → get_or (qualities_in pairs NEW n) k (0, 0) ≡ get_or (qualities_in pairs 0 n) k (0, 0)
      go false z = same-quality pairs n k h z
      go true z =
          let a : marked_in lmarks x.0 ≡ true = ap (λ (y : Two). marked_in lmarks y.0) is ∙ marks-made left w graph pairs (replicate 256 0) n (λ m l. (inside m l).0) k h z in
          let b : marked_in rmarks x.1 ≡ true = ap (λ (y : Two). marked_in rmarks y.1) is ∙ marks-made right w graph pairs (replicate 256 0) n (λ m l. (inside m l).1) k h z in
          absurd (clash (sym (ap₂ (λ (c d : Bool). both c d) a b) ∙ e))

  -- the classes that are live in the next round
  pub quiet-after : Closed (P.pairs t) ps → qualities_in pairs NEW n ≡ map (λ w. w.quality) (turns_of t ps (qualities_in pairs 0 n)) → 6 * n ≤ length pairs → (llive rlive pairs' llive' rlive' : List ℕ) → Ends t w graph n pairs llive rlive pairs' llive' rlive'
      → Quiet t ps (qualities_in pairs' 0 n) llive' rlive'
  quiet-after closed next room llive rlive pairs' llive' rlive' X =
      let e : qualities_in pairs' 0 n ≡ qualities_in pairs NEW n = ap (λ (l : List ℕ). qualities_in l 0 n) X.pairs ∙ settled-qualities pairs n room in
      rw e (quiet_next t v ps i closed (qualities_in pairs 0 n) (qualities_in pairs NEW n) next lmarks rmarks unmarked llive' rlive' (live_at t lmarks llive llive' X.llive) (live_at t rmarks rlive rlive' X.rlive))
