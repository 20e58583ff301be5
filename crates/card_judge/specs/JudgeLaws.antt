-- One pass down from the root: children stand below, so a term is marked before it is judged.
use Rattle.std.specs.Prelude.{◌≡◌, refl, ◌≢◌, Bool, true, false, not, List, ℕ, ◌+◌, ◌-◌, ◌%◌, ◌≤◌, ◌<◌, eqb, get_or, set, drop}
use Rattle.std.proofs.Math.Path.{sym, ap}
use Rattle.std.proofs.Common.{◌∙◌, inl, inr, eq-or-lt_of_le, arith, get_or-set_same, get_or-set_other, drop-set-lt, eq-eqb, ne_eqb, eqb-true}
use Rattle.std.proofs.Math.Decide.{ℕ_discrete}
use Rattle.std.proofs.Math.ListN.{length, length-set}
use Rattle.std.proofs.lemmas.Bool.{eqb-false}
use Rattle.spec.specs.Bytes.{pick, In, Two}
use Rattle.spec.specs.Pool.{Pool, node_at}
use Rattle.laws.specs.Lists.{in_map, map-in}
use Rattle.laws.specs.Tests.{clash}
use Rattle.laws.specs.AcceptedTurns.{failed, passed}
use Rattle.laws.specs.BagCount.{written, in-written}
use Rattle.formula_laws.specs.Signed.{InTerm, itself, below}
use Rattle.terms.specs.Buffers.{part, unpack, first_in, head_in, part_in, node_in, pool_of, count_in}
use Rattle.terms.specs.Chains.{Holds}
use Rattle.terms.specs.PartLaws.{part-cons, part-over}
use Rattle.terms.specs.PoolLaws.{pool-at}
use Rattle.card_forms.specs.RunLaws.{valid, written_in}
use Rattle.card_judge.specs.Bound.{bound_node, bound_head, mark_all, bound_at, marks_at, Unmarked, Judged}
use Rattle.card_judge.specs.MarkLaws.{mark-length, mark-keeps, mark-marks, mark-only, mark-rest}

-- ---- the loop over a term's runs
pub record Marking (runs w₀ : List ℕ) (from to : ℕ) (w : List ℕ) (i : ℕ) : Type 0 where
  pub begun : from ≤ i
  pub until : i ≤ to
  pub same : length w ≡ length w₀
  pub rest : mark_all w (part runs i (to - i)) ≡ mark_all w₀ (part runs from (to - from))

module _ (runs w₀ : List ℕ) (from to : ℕ) where
  pub marking-start : from ≤ to → Marking runs w₀ from to w₀ from
  marking-start h = record { begun = omega arith; until = h; same = refl; rest = refl }

  module _ {w : List ℕ} {i : ℕ} (I : Marking runs w₀ from to w i) where
    pub marking-turn : i < to → {c : ℕ} {w' : List ℕ} → c ≡ get_or runs i 0 % 16384 → w' ≡ set w c 1 → Marking runs w₀ from to w' (i + 1)
    unfolding mark_all
    marking-turn h {c = c} {w' = w'} e f = record {
      begun = omega (arith, I.begun);
      until = omega arith;
      same = ap length f ∙ length-set w c 1 ∙ I.same;
      rest = rw (f, e) (sym (ap (mark_all w) (part-cons runs i to h)) ∙ I.rest);
    }

    pub marking-end : to ≤ i → w ≡ mark_all w₀ (part runs from (to - from))
    unfolding mark_all
    marking-end h = sym (ap (mark_all w) (part-over runs i to h)) ∙ I.rest

-- ---- a term is visited
module _ (b terms runs w : List ℕ) (c : ℕ) where
  pub visit-none : get_or w c 0 ≡ 0 → (true ≡ bound_at b terms w c) × (w ≡ marks_at terms runs w c)
  visit-none e = let z = eq-eqb (get_or w c 0) 0 e in rw z (refl, refl)

  pub visit-some : get_or w c 0 ≢ 0 → {from to h : ℕ} {r : Bool} {w' : List ℕ} → from ≡ first_in terms c → to ≡ first_in terms (c + 1) → h ≡ head_in terms c → r ≡ bound_head b h → w' ≡ mark_all w (part runs from (to - from))
      → (r ≡ bound_at b terms w c) × (w' ≡ marks_at terms runs w c)
  visit-some e f g q x y = let z = ne_eqb (get_or w c 0) 0 e in rw z (x ∙ ap (bound_head b) q, y ∙ rw (f, g) refl)

-- ---- the term's nodes
in_then : {p : Pool} {a b c : ℕ} → InTerm p a b → InTerm p b c → InTerm p a c
in_then itself j = j
in_then (below i k) j = below i (in_then k j)

module _ (terms runs : List ℕ) (H : Holds terms runs) (c : ℕ) (h : c < count_in terms) where
  -- a term's children, and its runs
  run-of : (d : ℕ) → In d (written (node_at (pool_of terms runs) c).runs) → (r : ℕ) × In r (part_in terms runs c) × (d ≡ r % 16384)
  run-of d i =
      let (s, j, e, k) = in-written d (node_in terms runs c).runs (rw (pool-at terms runs c h) at i) in
      let (r, l, f) = map-in unpack (part_in terms runs c) s j in
      (r, l, e ∙ sym (ap (λ (z : Two). z.0) f))

  child-of : (r : ℕ) → In r (part_in terms runs c) → In (r % 16384) (written (node_at (pool_of terms runs) c).runs)
  child-of r i = let j = in_map unpack i in rw (pool-at terms runs c h) (written_in (unpack r) (node_in terms runs c).runs j ((valid terms runs H c h).below.counted (unpack r) j))

  child-low : (r : ℕ) → In r (part_in terms runs c) → r % 16384 < c
  child-low r i = (valid terms runs H c h).below.earlier (unpack r) (in_map unpack i)

  bound-node : (b : List ℕ) → bound_node b (node_at (pool_of terms runs) c) ≡ bound_head b (head_in terms c)
  bound-node b = ap (bound_node b) (pool-at terms runs c h)

-- ---- the pass: terms from c on are judged, and their children are marked
pub record Judging (b terms runs w₀ : List ℕ) (root : ℕ) (w : List ℕ) (c : ℕ) : Type 0 where
  pub few : c ≤ root + 1
  pub same : length w ≡ length w₀
  pub rest : drop (count_in terms) w ≡ drop (count_in terms) w₀
  pub begun : 0 < get_or w root 0
  pub sound : (i : ℕ) → i < count_in terms → 0 < get_or w i 0 → InTerm (pool_of terms runs) root i
  pub bound : (i : ℕ) → c ≤ i → i < count_in terms → 0 < get_or w i 0 → bound_head b (head_in terms i) ≡ true
  pub closed : (i : ℕ) → c ≤ i → i < count_in terms → 0 < get_or w i 0 → (r : ℕ) → In r (part_in terms runs i) → 0 < get_or w (r % 16384) 0

module _ (b terms runs w₀ : List ℕ) (root : ℕ) (h : root < count_in terms) (l : count_in terms ≤ length w₀) {w : List ℕ} (e : w ≡ set w₀ root 1) where
  pub root-length : count_in terms ≤ length w
  root-length = omega (arith, ap length e, length-set w₀ root 1)

  put-root : 0 < get_or w root 0
  put-root = rw (e, get_or-set_same w₀ root 1 0 (omega arith)) (omega arith)

  module _ (u : Unmarked (count_in terms) w₀) where
    only-root : (i : ℕ) → i < count_in terms → 0 < get_or w i 0 → i ≡ root
    only-root i k m = elim (ℕ_discrete i root) [ yes q ↦ q | no q ↦ absurd (let z : get_or w i 0 ≡ 0 = ap (λ (v : List ℕ). get_or v i 0) e ∙ get_or-set_other w₀ root i 1 0 q ∙ u i k in omega arith) ]

    pub judging-start : Judging b terms runs w root w (root + 1)
    judging-start = record {
      few = omega arith;
      same = refl;
      rest = refl;
      begun = put-root;
      sound = λ i k m. rw (only-root i k m) itself;
      bound = λ i q k m. absurd (omega (arith, only-root i k m));
      closed = λ i q k m. absurd (omega (arith, only-root i k m));
    }

  -- from the marks before the root's
  pub judged-from : {w' : List ℕ} {r : Bool} → Judged b terms runs root w w' r → Judged b terms runs root w₀ w' r
  judged-from J = record { answer = J.answer; same = J.same ∙ ap length e ∙ length-set w₀ root 1; rest = J.rest ∙ ap (drop (count_in terms)) e ∙ drop-set-lt (count_in terms) w₀ root 1 h }

module _ (b terms runs w₀ : List ℕ) (root : ℕ) (H : Holds terms runs) (h : root < count_in terms) (l : count_in terms ≤ length w₀) where
  -- all is judged: what is in the term is marked
  module _ {w : List ℕ} {d : ℕ} (n : d ≡ 0) (I : Judging b terms runs w₀ root w d) where
    reached : {a c : ℕ} → InTerm (pool_of terms runs) a c → a < count_in terms → 0 < get_or w a 0 → (c < count_in terms) × (0 < get_or w c 0)
    reached itself k m = (k, m)
    reached (below {a = a} {b = d} i j) k m =
        let (r, x, e) = run-of terms runs H a k d i in
        let y : d < a = rw e (child-low terms runs H a k r x) in
        reached j (omega arith) (rw e (I.closed a (omega arith) k m r x))

    pub judging-end : Judged b terms runs root w₀ w true
    judging-end = record {
      answer = (λ e c j. let (k, m) = reached j h I.begun in bound-node terms runs H c k b ∙ I.bound c (omega arith) k m, λ f. refl);
      same = I.same;
      rest = I.rest;
    }

  module _ {w : List ℕ} {d : ℕ} (I : Judging b terms runs w₀ root w d) (c : ℕ) (n : d ≡ c + 1) where
    pub low : c < count_in terms
    low = omega (arith, I.few)

    pub visit-asks : Holds terms runs × (c < count_in terms) × (count_in terms ≤ length w)
    visit-asks = (H, low, omega (arith, I.same))

    -- a term that is not marked
    not-marked : get_or w c 0 ≡ 0 → Judging b terms runs w₀ root w c
    not-marked z = record {
      few = omega (arith, I.few);
      same = I.same;
      rest = I.rest;
      begun = I.begun;
      sound = I.sound;
      bound = λ i x y v. I.bound i (past i x v) y v;
      closed = λ i x y v. I.closed i (past i x v) y v;
    }
      where
        past : (i : ℕ) → c ≤ i → 0 < get_or w i 0 → d ≤ i
        past i x v = elim (eq-or-lt_of_le x) [ inl k ↦ absurd (let y : get_or w i 0 ≡ 0 = rw (← k) z in omega arith) | inr k ↦ omega arith ]

    -- a term that is marked and bound: its children are marked
    marked : 0 < get_or w c 0 → bound_head b (head_in terms c) ≡ true → Judging b terms runs w₀ root (mark_all w (part_in terms runs c)) c
    marked z m = record {
      few = omega (arith, I.few);
      same = mark-length (part_in terms runs c) w ∙ I.same;
      rest = mark-rest (part_in terms runs c) w (count_in terms) (λ s i. omega (arith, child-low terms runs H c low s i, low)) ∙ I.rest;
      begun = mark-keeps (part_in terms runs c) w root I.begun;
      sound = λ i y v. elim (mark-only (part_in terms runs c) w i v) [ inl k ↦ I.sound i y k | inr (s, j, k) ↦ rw k (in_then (I.sound c low z) (below (child-of terms runs H c low s j) itself)) ];
      bound = λ i x y v. elim (eq-or-lt_of_le x) [ inl k ↦ rw (← k) m | inr k ↦ I.bound i (omega arith) y (before i k v) ];
      closed = λ i x y v r j. elim (eq-or-lt_of_le x) [ inl k ↦ mark-marks (part_in terms runs c) w r (rw (← k) at j) (child-within r (rw (← k) at j)) | inr k ↦ mark-keeps (part_in terms runs c) w (r % 16384) (I.closed i (omega arith) y (before i k v) r j) ];
    }
      where
        child-within : (r : ℕ) → In r (part_in terms runs c) → r % 16384 < length w
        child-within r j = omega (arith, child-low terms runs H c low r j, visit-asks.2)

        before : (i : ℕ) → c < i → 0 < get_or (mark_all w (part_in terms runs c)) i 0 → 0 < get_or w i 0
        before i k v = elim (mark-only (part_in terms runs c) w i v) [ inl x ↦ x | inr (s, j, e) ↦ absurd (omega (arith, child-low terms runs H c low s j)) ]

    module _ {r : Bool} {w' : List ℕ} (e : r ≡ bound_at b terms w c) (f : w' ≡ marks_at terms runs w c) where
      next-same : length w' ≡ length w₀
      next-same = ap length f ∙ go (eqb (get_or w c 0) 0) ∙ I.same
        where
          go : (z : Bool) → length (pick z w (mark_all w (part_in terms runs c))) ≡ length w
          go true = refl
          go false = mark-length (part_in terms runs c) w

      next-rest : drop (count_in terms) w' ≡ drop (count_in terms) w₀
      next-rest = ap (drop (count_in terms)) f ∙ go (eqb (get_or w c 0) 0) ∙ I.rest
        where
          go : (z : Bool) → drop (count_in terms) (pick z w (mark_all w (part_in terms runs c))) ≡ drop (count_in terms) w
          go true = refl
          go false = mark-rest (part_in terms runs c) w (count_in terms) (λ s i. omega (arith, child-low terms runs H c low s i, low))

      -- a term without a sign
      pub judging-stop : not r ≡ true → Judged b terms runs root w₀ w' false
      judging-stop q = record {
        answer = (λ k. absurd (clash (sym k)), λ g. absurd (clash (sym (g c stop.0) ∙ bound-node terms runs H c low b ∙ stop.1)));
        same = next-same;
        rest = next-rest;
      }
        where
          go : (z : Bool) → eqb (get_or w c 0) 0 ≡ z → pick z true (bound_head b (head_in terms c)) ≡ false → InTerm (pool_of terms runs) root c × (bound_head b (head_in terms c) ≡ false)
          go true k m = absurd (clash m)
          go false k m = (I.sound c low (let n : get_or w c 0 ≢ 0 = eqb-false (get_or w c 0) 0 k in omega arith), m)

          stop : InTerm (pool_of terms runs) root c × (bound_head b (head_in terms c) ≡ false)
          stop = go (eqb (get_or w c 0) 0) refl (failed e q)

      -- on to the next
      pub judging-turn : not r ≡ false → Judging b terms runs w₀ root w' c
      judging-turn q = go (eqb (get_or w c 0) 0) refl f (passed e q)
        where
          go : (z : Bool) → eqb (get_or w c 0) 0 ≡ z → w' ≡ pick z w (mark_all w (part_in terms runs c)) → pick z true (bound_head b (head_in terms c)) ≡ true → Judging b terms runs w₀ root w' c
          go true k g m = rw g (not-marked (eqb-true (get_or w c 0) 0 k))
          go false k g m = rw g (marked (let z : get_or w c 0 ≢ 0 = eqb-false (get_or w c 0) 0 k in omega arith) m)
