-- (02, Paper 7) narrowing, and what the count of skipped pairs counts.
use Rattle.std.specs.Prelude.{◌≡◌, refl, ◌⊎◌, ◌↔◌, Bool, true, false, not, List, [], ◌∷◌, ◌++◌, ℕ, zero, suc, ◌+◌, ◌≤◌, ◌<◌, ltb, length, get_or}
use Rattle.std.proofs.Common.{sym, ap, ◌∙◌, inl, inr, arith, not-suc-le-zero, le_of_suc-le-suc, ltb-true, ltb-false, le-leb}
use Rattle.std.proofs.Math.Option.{none, some}
use Rattle.std.proofs.lemmas.Bool.{lt-leb}
use Rattle.spec.specs.Bytes.{pick, both, either, all, any, filter, place, Two, same_twos, In, here, there}
use Rattle.spec.specs.Monomial.{Monomial, MonomialPair, narrow, fails_at, wide_pairs, wide, same_pair, count_once, COUNT}
use Rattle.laws.specs.Tests.{clash, is_false, either-false, either-swap}
use Rattle.laws.specs.AcceptedLists.{any-in, any_of, any-cons, no-entry}
use Rattle.laws.specs.AcceptedTurns.{any_append}
use Rattle.skips.specs.Repeated.{same-is, same-same}

-- ---- "Narrowing a monomial must say that it failed and at which entry (from 0) first."
abbrev large : Two → Bool
large t = ltb COUNT t.1

-- entry i is above 4,294,967,295, and none before it is
pub record Fails (m : Monomial) (i : ℕ) : Type 0 where
  pub within : i < length m
  pub above : COUNT < (get_or m i (0, 0)).1
  pub first : (j : ℕ) → j < i → (get_or m j (0, 0)).1 ≤ COUNT

place-says : (m : Monomial) → (place large m ≤ length m) × (place large m < length m → Fails m (place large m)) × (length m ≤ place large m → narrow m ≡ true) × (place large m < length m → narrow m ≡ false)
unfolding place all
place-says [] = (omega arith, λ h. absurd (not-suc-le-zero h), λ h. refl, λ h. absurd (not-suc-le-zero h))
place-says (t ∷ m) = go (large t) refl (place-says m)
  where
    go : (b : Bool) → large t ≡ b
        → (place large m ≤ length m) × (place large m < length m → Fails m (place large m)) × (length m ≤ place large m → narrow m ≡ true) × (place large m < length m → narrow m ≡ false)
        → (elim b [ true ↦ 0 | false ↦ suc (place large m) ] ≤ suc (length m))
        × (elim b [ true ↦ 0 | false ↦ suc (place large m) ] < suc (length m) → Fails (t ∷ m) (elim b [ true ↦ 0 | false ↦ suc (place large m) ]))
        × (suc (length m) ≤ elim b [ true ↦ 0 | false ↦ suc (place large m) ] → narrow (t ∷ m) ≡ true)
        × (elim b [ true ↦ 0 | false ↦ suc (place large m) ] < suc (length m) → narrow (t ∷ m) ≡ false)
    go true e ih =
        let above = ltb-true COUNT t.1 e in
        (omega arith, λ h. record { within = omega arith; above = above; first = λ j k. absurd (not-suc-le-zero k) }, λ h. absurd (not-suc-le-zero h), λ h. rw (all, lt-leb t.1 COUNT above) refl)
    go false e (a, b, c, d) =
        let low = ltb-false COUNT t.1 e in (
          omega arith,
          λ h. (let F = b (omega arith) in record { within = omega (arith, F.within); above = F.above; first = λ j k. below F low j k }),
          λ h. rw (all, le-leb t.1 COUNT low) (c (omega arith)),
          λ h. rw (all, le-leb t.1 COUNT low) (d (omega arith)),
        )
      where
        below : Fails m (place large m) → t.1 ≤ COUNT → (j : ℕ) → j < suc (place large m) → (get_or (t ∷ m) j (0, 0)).1 ≤ COUNT
        below F low zero k = low
        below F low (suc j) k = F.first j (le_of_suc-le-suc k)

-- it fails exactly where the monomial is not narrow, and says the first such entry
pub fails-none : (m : Monomial) → fails_at m ≡ none ↔ narrow m ≡ true
unfolding fails_at
fails-none m = let (a, b, c, d) = place-says m in go (ltb (place large m) (length m)) refl c d
  where
    go : (x : Bool) → ltb (place large m) (length m) ≡ x → (length m ≤ place large m → narrow m ≡ true) → (place large m < length m → narrow m ≡ false)
        → pick x (some (place large m)) none ≡ none ↔ narrow m ≡ true
    go true e c d = (λ z. absurd (let y : ◌≡◌ {A = ℕ} 0 1 = cc in omega arith), λ z. absurd (clash (sym z ∙ d (ltb-true (place large m) (length m) e))))
    go false e c d = (λ z. c (ltb-false (place large m) (length m) e), λ z. refl)

pub fails-first : (m : Monomial) (i : ℕ) → fails_at m ≡ some i → Fails m i
unfolding fails_at
fails-first m i q = let (a, b, c, d) = place-says m in go (ltb (place large m) (length m)) refl q b
  where
    one : {x y : ℕ} → some x ≡ some y → x ≡ y
    one e = cc

    go : (x : Bool) → ltb (place large m) (length m) ≡ x → pick x (some (place large m)) none ≡ some i → (place large m < length m → Fails m (place large m)) → Fails m i
    go true e z b = rw (one z) at (b (ltb-true (place large m) (length m) e))
    go false e z b = absurd (let y : ◌≡◌ {A = ℕ} 0 1 = cc in omega arith)

-- ---- counted at its turn, as the code does: it is skipped, and no earlier pair is the same
unfoldable pub count_from : List MonomialPair → List MonomialPair → ℕ
unfolding all any same_twos
count_from earlier [] = 0
count_from earlier (p ∷ l) = pick (both (wide p) (not (any (same_pair p) earlier))) 1 0 + count_from (earlier ++ (p ∷ [])) l

-- what was counted, and what was met, tell the same of every skipped pair
abbrev Agree : List MonomialPair → List MonomialPair → Type 0
Agree seen earlier = (q : MonomialPair) → wide q ≡ true → any (same_pair q) seen ≡ any (same_pair q) earlier

any_last : (q p : MonomialPair) (l : List MonomialPair) → any (same_pair q) (l ++ (p ∷ [])) ≡ either (any (same_pair q) l) (same_pair q p)
unfolding any
any_last q p l = any_append (same_pair q) l (p ∷ []) ∙ ap (either (any (same_pair q) l)) (any-cons (same_pair q) p [] ∙ either-false (same_pair q p))

module _ (p : MonomialPair) (seen earlier : List MonomialPair) (g : Agree seen earlier) where
  agree-again : any (same_pair p) seen ≡ true → Agree seen (earlier ++ (p ∷ []))
  agree-again a q w = go (same_pair q p) refl
    where
      go : (b : Bool) → same_pair q p ≡ b → any (same_pair q) seen ≡ any (same_pair q) (earlier ++ (p ∷ []))
      go true e =
          let z : q ≡ p = same-is q p e in
          let y : any (same_pair q) seen ≡ true = rw z a in
          y ∙ sym (any_last q p earlier ∙ ap (λ (b : Bool). either b (same_pair q p)) (sym (g q w) ∙ y))
      go false e = g q w ∙ sym (any_last q p earlier ∙ rw e (either-false (any (same_pair q) earlier)))

  agree-new : Agree (p ∷ seen) (earlier ++ (p ∷ []))
  agree-new q w = any-cons (same_pair q) p seen ∙ ap (either (same_pair q p)) (g q w) ∙ either-swap (same_pair q p) (any (same_pair q) earlier) ∙ sym (any_last q p earlier)

  agree-narrow : wide p ≡ false → Agree seen (earlier ++ (p ∷ []))
  agree-narrow n q w = go (same_pair q p) refl
    where
      go : (b : Bool) → same_pair q p ≡ b → any (same_pair q) seen ≡ any (same_pair q) (earlier ++ (p ∷ []))
      go true e = absurd (clash (sym w ∙ ap wide (same-is q p e) ∙ n))
      go false e = g q w ∙ sym (any_last q p earlier ∙ rw e (either-false (any (same_pair q) earlier)))

count-agrees : (seen earlier l : List MonomialPair) → Agree seen earlier → count_once seen (wide_pairs l) ≡ count_from earlier l
unfolding count_once count_from wide_pairs filter
count-agrees seen earlier [] g = refl
count-agrees seen earlier (p ∷ l) g = go (wide p) refl (λ s h. count-agrees s (earlier ++ (p ∷ [])) l h)
  where
    new : (a : Bool) → any (same_pair p) seen ≡ a → wide p ≡ true → ((s : List MonomialPair) → Agree s (earlier ++ (p ∷ [])) → count_once s (wide_pairs l) ≡ count_from (earlier ++ (p ∷ [])) l)
        → elim a [ true ↦ count_once seen (wide_pairs l) | false ↦ suc (count_once (p ∷ seen) (wide_pairs l)) ] ≡ pick (not a) 1 0 + count_from (earlier ++ (p ∷ [])) l
    new true e w ih = omega (arith, ih seen (agree-again p seen earlier g e))
    new false e w ih = omega (arith, ih (p ∷ seen) (agree-new p seen earlier g))

    go : (b : Bool) → wide p ≡ b → ((s : List MonomialPair) → Agree s (earlier ++ (p ∷ [])) → count_once s (wide_pairs l) ≡ count_from (earlier ++ (p ∷ [])) l)
        → count_once seen (elim b [ true ↦ p ∷ wide_pairs l | false ↦ wide_pairs l ]) ≡ pick (both b (not (any (same_pair p) earlier))) 1 0 + count_from (earlier ++ (p ∷ [])) l
    go true w ih = new (any (same_pair p) seen) refl w ih ∙ ap (λ (b : Bool). pick (not b) 1 0 + count_from (earlier ++ (p ∷ [])) l) (g p w)
    go false w ih = omega (arith, ih seen (agree-narrow p seen earlier g w))

-- The count of distinct skipped pairs is the number of turns at which a skipped pair is met for the first time.
pub count-turns : (l : List MonomialPair) → count_once [] (wide_pairs l) ≡ count_from [] l
count-turns l = count-agrees [] [] l (λ q w. refl)

-- ---- "is counted once": there is a list of the skipped pairs, each once, and the count is its length
pub data Once : List MonomialPair → Type 0 where
  nothing : Once []
  also : {p : MonomialPair} {l : List MonomialPair} → (In p l → ⊥) → Once l → Once (p ∷ l)

pub record Counted (seen l : List MonomialPair) (n : ℕ) : Type 0 where
  pub those : List MonomialPair
  pub once : Once those
  pub new : (q : MonomialPair) → In q those → any (same_pair q) seen ≡ false
  pub from : (q : MonomialPair) → In q those → In q l
  pub all : (q : MonomialPair) → In q l → any (same_pair q) seen ≡ true ⊎ In q those
  pub many : length those ≡ n

pub counted : (seen l : List MonomialPair) → Counted seen l (count_once seen l)
unfolding count_once any
counted seen [] = record { those = []; once = nothing; new = λ q i. absurd (no-entry i); from = λ q i. absurd (no-entry i); all = λ q i. absurd (no-entry i); many = refl }
counted seen (p ∷ l) = go (any (same_pair p) seen) refl (counted seen l) (counted (p ∷ seen) l)
  where
    go : (a : Bool) → any (same_pair p) seen ≡ a → Counted seen l (count_once seen l) → Counted (p ∷ seen) l (count_once (p ∷ seen) l)
        → Counted seen (p ∷ l) (elim a [ true ↦ count_once seen l | false ↦ suc (count_once (p ∷ seen) l) ])
    go true e c d = record {
      those = c.those;
      once = c.once;
      new = c.new;
      from = λ q i. there (c.from q i);
      all = λ q i. old q i;
      many = c.many;
    }
      where
        old : (q : MonomialPair) → In q (p ∷ l) → any (same_pair q) seen ≡ true ⊎ In q c.those
        old q here = inl e
        old q (there i) = c.all q i
    go false e c d = record {
      those = p ∷ d.those;
      once = also (λ i. clash (sym (any_of (same_pair p) (p ∷ seen) p here (same-same p)) ∙ d.new p i)) d.once;
      new = λ q i. fresh q i;
      from = λ q i. came q i;
      all = λ q i. each-one q i;
      many = ap suc d.many;
    }
      where
        less : (q : MonomialPair) → any (same_pair q) (p ∷ seen) ≡ false → any (same_pair q) seen ≡ false
        less q z = is_false (any (same_pair q) seen) (λ y. let (x, i, u) = any-in (same_pair q) seen y in clash (sym (any_of (same_pair q) (p ∷ seen) x (there i) u) ∙ z))

        fresh : (q : MonomialPair) → In q (p ∷ d.those) → any (same_pair q) seen ≡ false
        fresh q here = e
        fresh q (there i) = less q (d.new q i)

        came : (q : MonomialPair) → In q (p ∷ d.those) → In q (p ∷ l)
        came q here = here
        came q (there i) = there (d.from q i)

        tell : (q : MonomialPair) → any (same_pair q) (p ∷ seen) ≡ true ⊎ In q d.those → any (same_pair q) seen ≡ true ⊎ In q (p ∷ d.those)
        tell q (inr i) = inr (there i)
        tell q (inl z) = go' (any-in (same_pair q) (p ∷ seen) z)
          where
            go' : ((x : MonomialPair) × In x (p ∷ seen) × (same_pair q x ≡ true)) → any (same_pair q) seen ≡ true ⊎ In q (p ∷ d.those)
            go' (x, here, u) = inr (rw (same-is q x u) here)
            go' (x, there i, u) = inl (any_of (same_pair q) seen x i u)

        each-one : (q : MonomialPair) → In q (p ∷ l) → any (same_pair q) seen ≡ true ⊎ In q (p ∷ d.those)
        each-one q here = inr here
        each-one q (there i) = tell q (d.all q i)
