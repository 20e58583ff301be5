-- Qualities from round to round, over a list of nodes that holds every node it joins. Three layers: what needs no law of the actions; the bound on rounds, from `Backs`;
-- least of each height and of every height, from `Moves`.
use Rattle.std.specs.Prelude.{◌≡◌, ◌≢◌, ◌⊎◌, Bool, false}
use Rattle.std.proofs.Math.Path.{refl, sym}
use Rattle.std.proofs.Common.{ap, ◌∙◌, inl, inr, arith, le_refl, le_trans, eq-or-lt_of_le}
use Rattle.std.proofs.Math.Bool.{true}
use mathlib.Core.List.{List, [], ◌∷◌, map}
use Prim.Native.Nat.{ℕ, zero, suc, ◌+◌, ◌≤◌, zero-le}
use Rattle.std.proofs.Math.Nat.{zero-add, suc-add}
use Rattle.spec.specs.Bytes.{any, In, here, there, Two}
use Rattle.spec.specs.System.{System, Act, look_up, Turn, changes, worth, turn_of, turns_of, next, qualities_after, Derivation, start, action, Places, no_place, and_place}
use Rattle.spec.specs.Meaning.{◌⊑◌}
use Rattle.laws.specs.Tests.{clash}
use Rattle.laws.specs.Lists.{map-in, in_map, any-in, any_none, map-map, map-ext, look-up}
use Rattle.steps.specs.Quality.{◌⊏◌, ⊑_refl, ⊑-of-eq, ⊑_trans, ⊏-not, Below, below-nil, below_next}
use Rattle.steps.specs.Graph.{Closed}
use Rattle.steps.specs.Turn.{Told, turn-told, turn-old, turn-new, turn-from, Won}

-- the quality of node p after r rounds
abbrev pub quality_after : {N : Type 0} → System N → List N → ℕ → N → Two
quality_after S ps r p = look_up S.same (0, 0) ps (qualities_after S r ps) p

-- whether round r, counted from 0, changes a quality
abbrev pub changed : {N : Type 0} → System N → List N → ℕ → Bool
changed S ps r = any changes (turns_of S ps (qualities_after S r ps))

-- ---- what needs no law
module _ {N : Type 0} (S : System N) (ps : List N) where
  pub q-start : (p : N) → In p ps → quality_after S ps 0 p ≡ S.starting_quality p
  unfolding qualities_after
  q-start p i = look-up S.decides (0, 0) S.starting_quality ps p i

  after_map : (r : ℕ) → qualities_after S (suc r) ps ≡ map (λ p. (turn_of S (quality_after S ps r) p).quality) ps
  unfolding qualities_after turns_of
  after_map r = map-map (turn_of S (quality_after S ps r)) (λ w. w.quality) ps

  pub q-next : (r : ℕ) (p : N) → In p ps → quality_after S ps (suc r) p ≡ (turn_of S (quality_after S ps r) p).quality
  q-next r p i = rw (after_map r) (look-up S.decides (0, 0) (λ p. (turn_of S (quality_after S ps r) p).quality) ps p i)

  pub by-node : (r : ℕ) → qualities_after S r ps ≡ map (quality_after S ps r) ps
  unfolding qualities_after
  by-node zero = map-ext S.starting_quality (quality_after S ps 0) ps (λ p i. sym (q-start p i))
  by-node (suc r) = after_map r ∙ map-ext _ (quality_after S ps (suc r)) ps (λ p i. sym (q-next r p i))

  pub q-falls : (r : ℕ) (p : N) → In p ps → quality_after S ps (suc r) p ⊑ quality_after S ps r p
  q-falls r p i = rw (q-next r p i) (turn-old S (quality_after S ps r) p)

  pub q-mono : (r s : ℕ) (p : N) → In p ps → r ≤ s → quality_after S ps s p ⊑ quality_after S ps r p
  q-mono r zero p i h = let e : r ≡ 0 = omega arith in rw e (⊑_refl _)
  q-mono r (suc s) p i h =
      elim (eq-or-lt_of_le h) [
        | inl e ↦ rw e (⊑_refl _)
        | inr l ↦ ⊑_trans (quality_after S ps (suc s) p) (quality_after S ps s p) (quality_after S ps r p) (q-falls s p i) (q-mono r s p i (omega arith))
      ]

  -- rounds that change something, and rounds that do not
  told : (r : ℕ) (p : N) → Told (quality_after S ps r p) (turn_of S (quality_after S ps r) p)
  told r p = turn-told S (quality_after S ps r) p

  pub quiet_same : (r : ℕ) → changed S ps r ≡ false → qualities_after S (suc r) ps ≡ qualities_after S r ps
  unfolding turns_of
  quiet_same r e = after_map r ∙ map-ext _ (quality_after S ps r) ps (λ p i. same p i (told r p)) ∙ sym (by-node r)
    where
      same : (p : N) → In p ps → Told (quality_after S ps r p) (turn_of S (quality_after S ps r) p) → (turn_of S (quality_after S ps r) p).quality ≡ quality_after S ps r p
      same p i (inl (n, k)) = k
      same p i (inr (n, k)) = absurd (clash (sym n ∙ any_none changes (map (turn_of S (quality_after S ps r)) ps) (turn_of S (quality_after S ps r) p) e (in_map (turn_of S (quality_after S ps r)) i)))

  pub changed-some : (r : ℕ) → changed S ps r ≡ true → (p : N) × In p ps × (quality_after S ps (suc r) p ⊏ quality_after S ps r p)
  unfolding turns_of
  changed-some r e =
      let a = any-in changes (map (turn_of S (quality_after S ps r)) ps) e in
      let b = map-in (turn_of S (quality_after S ps r)) ps a.0 a.1 in
      (b.0, b.1, rw (q-next r b.0 b.1) (better b.0 (told r b.0) (ap (λ (w : Turn N). changes w) b.2 ∙ a.2)))
    where
      better : (p : N) → Told (quality_after S ps r p) (turn_of S (quality_after S ps r) p) → changes (turn_of S (quality_after S ps r) p) ≡ true → (turn_of S (quality_after S ps r) p).quality ⊏ quality_after S ps r p
      better p (inl (n, k)) z = absurd (clash (sym z ∙ n))
      better p (inr (n, k)) z = k

  pub changed-differs : (r : ℕ) → changed S ps r ≡ true → qualities_after S (suc r) ps ≢ qualities_after S r ps
  changed-differs r e same =
      let (p, i, l) = changed-some r e in
      ⊏-not (quality_after S ps (suc r) p) (quality_after S ps r p) l (⊑-of-eq (ap (λ (m : List Two). look_up S.same (0, 0) ps m p) (sym same)))

  -- nothing changes after a round that changes nothing
  pub forever : (r : ℕ) → qualities_after S (suc r) ps ≡ qualities_after S r ps → (k : ℕ) → qualities_after S (k + r) ps ≡ qualities_after S r ps
  unfolding qualities_after
  forever r e zero = rw zero-add refl
  forever r e (suc k) = rw suc-add (ap (λ (l : List Two). next S ps l) (forever r e k) ∙ e)

-- ---- the bound
-- both numbers of a are at most b's
abbrev pub NoMore : Two → Two → Type 0
NoMore a b = (a.0 ≤ b.0) × (a.1 ≤ b.1)

-- Where the joined nodes fell from q to r and node p improves again, one of the joined nodes improved, to numbers at most p's new ones.
pub record Backs {N : Type 0} (S : System N) : Type 0 where
  pub back : (q r : N → Two) (p : N) → ((c : N) → In c (S.joins p) → r c ⊑ q c) → r p ≡ (turn_of S q p).quality → (turn_of S r p).quality ⊏ r p
      → (c : N) × In c (S.joins p) × (r c ⊏ q c) × NoMore (r c) (turn_of S r p).quality

-- ---- derivations
module _ {N : Type 0} (S : System N) (Move : N → List N → List ℕ → Type 0) where
  -- "a derivation of height at most h"
  abbrev pub AtMost : ℕ → N → Two → Type 0
  AtMost h p z = (k : ℕ) × (k ≤ h) × Derivation S Move k p z

  -- z is the quality of a derivation of height at most h, and every such derivation has at least as much
  abbrev pub LeastOf : ℕ → N → Two → Type 0
  LeastOf h p z = AtMost h p z × ((y : Two) → AtMost h p y → z ⊑ y)

  -- The laws of the actions: an offer is a move; no move is better than every offer; what a move joins, the node joins; better places, better value.
  pub record Moves : Type 0 where
    pub sound : (q : N → Two) (p : N) (a : Act N) → In a (S.offers q p) → Move p a.places a.counts
    pub best : (q : N → Two) (p : N) (cs : List N) (x : List ℕ) → Move p cs x → (a : Act N) × In a (S.offers q p) × (worth S q a ⊑ S.value x (map q cs))
    pub joined : (p : N) (cs : List N) (x : List ℕ) → Move p cs x → (c : N) → In c cs → In c (S.joins p)
    pub rising : (x : List ℕ) (l m : List Two) → Below l m → S.value x l ⊑ S.value x m

module _ {N : Type 0} (S : System N) (Move : N → List N → List ℕ → Type 0) (M : Moves S Move) where
  pub turn-move : (q : N → Two) (p : N) (cs : List N) (x : List ℕ) → Move p cs x → (turn_of S q p).quality ⊑ S.value x (map q cs)
  turn-move q p cs x m = let (a, i, l) = M.best q p cs x m in ⊑_trans (turn_of S q p).quality (worth S q a) (S.value x (map q cs)) (turn-new S q p a i) l

  places_of : (h : ℕ) (q : N → Two) (cs : List N) → ((c : N) → In c cs → AtMost S Move h c (q c)) → Places S Move h cs (map q cs)
  places_of h q [] f = no_place
  places_of h q (c ∷ cs) f = let d = f c here in and_place d.1 d.2 (places_of h q cs (λ e k. f e (there k)))

  below-places : (h r : ℕ) (q : N → Two) (cs : List N) (zs : List Two) → h ≤ r → Places S Move h cs zs → ((c : N) (z : Two) → In c cs → AtMost S Move r c z → q c ⊑ z) → Below (map q cs) zs
  below-places h r q (c ∷ cs) [] le x5 g = elim x5 [ ]
  below-places h r q [] (z ∷ zs) le x6 g = elim x6 [ ]
  below-places h r q [] [] le no_place g = below-nil
  below-places h r q (c ∷ cs) (z ∷ zs) le (and_place {k = k} s d rest) g = below_next (g c z here (k, le_trans s le, d)) (below-places h r q cs zs le rest (λ e y i. g e y (there i)))

  module _ (ps : List N) (closed : Closed S ps) where
    abbrev q' : ℕ → N → Two
    q' r = quality_after S ps r

    pub attained : (r : ℕ) (p : N) → In p ps → AtMost S Move r p (q' r p)
    attained zero p i = (0, le_refl 0, start (q-start S ps p i))
    attained (suc r) p i = rw (q-next S ps r p i) (go (turn-from S (q' r) p) (attained r p i) (λ c j. attained r c (closed p c i j)))
      where
        z : Two
        z = (turn_of S (q' r) p).quality

        go : (z ≡ q' r p) ⊎ Won S (q' r) p z → AtMost S Move r p (q' r p) → ((c : N) → In c (S.joins p) → AtMost S Move r c (q' r c)) → AtMost S Move (suc r) p z
        go (inl e) old ih = rw e (old.0, omega (arith, old.1), old.2)
        go (inr (a, j, e)) old ih =
            let m = M.sound (q' r) p a j in
            (suc r, le_refl (suc r), action a.places a.counts m (map (q' r) a.places) (places_of r (q' r) a.places (λ c k. ih c (M.joined p a.places a.counts m c k))) e)

    pub least : (r : ℕ) (p : N) → In p ps → (z : Two) → AtMost S Move r p z → q' r p ⊑ z
    least zero p i z (k, le, start e) = ⊑-of-eq (q-start S ps p i ∙ sym e)
    least zero p i z (k, le, action cs x m zs l e) = absurd (omega arith)
    least (suc r) p i z (k, le, start e) = ⊑_trans (q' (suc r) p) (q' r p) z (q-falls S ps r p i) (least r p i z (0, zero-le, start e))
    least (suc r) p i z (k, le, action {h = h} cs x m zs l e) =
        rw (q-next S ps r p i, e)
        (⊑_trans (turn_of S (q' r) p).quality (S.value x (map (q' r) cs)) (S.value x zs) (turn-move (q' r) p cs x m)
        (M.rising x (map (q' r) cs) zs (below-places h r (q' r) cs zs (omega arith) l (λ c y j a. least r c (closed p c i (M.joined p cs x m c j)) y a))))

    pub least-every : (r : ℕ) → changed S ps r ≡ false → (p : N) → In p ps → (h : ℕ) (z : Two) → Derivation S Move h p z → q' r p ⊑ z
    least-every r e p i h z d =
        rw (ap (λ (l : List Two). look_up S.same (0, 0) ps l p) (sym (forever S ps r (quiet_same S ps r e) h))) (least (h + r) p i z (h, omega arith, d))
