-- Laws of the end of a round: what the pairs have, and what is marked.
use Rattle.std.specs.Prelude.{◌≡◌, ◌⊎◌, Bool, true, false, not, ltb, eqb, set}
use Rattle.std.proofs.Math.Path.{refl, sym, ap, ap₂}
use Rattle.std.proofs.Common.{◌∙◌, inl, inr, not-suc-le-zero, eq-or-lt_of_le, add-one, eq-eqb, ne_eqb, eqb-true, length-set, get_or-set_same, get_or-set_other}
use mathlib.Core.List.{List, [], ◌∷◌, ◌++◌}
use Prim.Native.Nat.{ℕ, zero, suc, ◌+◌, ◌*◌, ◌≤◌, ◌<◌}
use Rattle.std.proofs.Math.Decide.{ℕ_discrete}
use native.Mathlib.Omega.{arith}
use Rattle.std.proofs.Math.ListN.{length, get_or}
use Rattle.std.proofs.lemmas.List.{set-get_or}
use Rattle.spec.specs.Bytes.{pick, Two}
use Rattle.laws.specs.Tests.{clash}
use Rattle.changes.specs.Marks.{marked_in}
use Rattle.arrays.specs.Arrays.{unkey, NEW, qualities_in, terms_in, qualities_from, terms_from, given}
use Rattle.arrays.specs.ArrayLaws.{given-length, given-other, qualities-more, terms-more, qualities-snoc, terms-snoc, quality-at}
use Rattle.pair_settling.specs.Settling.{differs_at, moved_by, marked_by, marks_of, settled_at, settled}

-- ---- a pair that differs
-- by its four numbers
abbrev Differs : ℕ → ℕ → ℕ → ℕ → Bool
Differs a b c d = pick (eqb a b) (pick (eqb c d) false true) true

-- as the code counts the places
module _ (pairs : List ℕ) (k : ℕ) where
  mass-place : get_or pairs (6 * k + 3 + 1) 0 ≡ get_or pairs (6 * k + 4) 0
  mass-place = let e : 6 * k + 3 + 1 ≡ 6 * k + 4 = omega arith in ap (λ (i : ℕ). get_or pairs i 0) e

  pub differs-size : (get_or pairs (6 * k) 0 ≡ get_or pairs (6 * k + 3) 0 → ⊥) → true ≡ differs_at pairs k
  differs-size h = rw (ne_eqb (get_or pairs (6 * k) 0) (get_or pairs (6 * k + 3) 0) h) refl

  module _ (e : get_or pairs (6 * k) 0 ≡ get_or pairs (6 * k + 3) 0) where
    pub differs-mass : (get_or pairs (6 * k + 1) 0 ≡ get_or pairs (6 * k + 3 + 1) 0 → ⊥) → true ≡ differs_at pairs k
    differs-mass h = rw (eq-eqb (get_or pairs (6 * k) 0) (get_or pairs (6 * k + 3) 0) e, ne_eqb (get_or pairs (6 * k + 1) 0) (get_or pairs (6 * k + 4) 0) (λ z. h (z ∙ sym mass-place))) refl

    pub differs-not : get_or pairs (6 * k + 1) 0 ≡ get_or pairs (6 * k + 3 + 1) 0 → false ≡ differs_at pairs k
    differs-not f = rw (eq-eqb (get_or pairs (6 * k) 0) (get_or pairs (6 * k + 3) 0) e, eq-eqb (get_or pairs (6 * k + 1) 0) (get_or pairs (6 * k + 4) 0) (f ∙ mass-place)) refl

same_numbers : (a b c d : ℕ) → Differs a b c d ≡ false → (a ≡ b) × (c ≡ d)
same_numbers a b c d e = go (eqb a b) refl (eqb c d) refl e
  where
    go : (x : Bool) → eqb a b ≡ x → (y : Bool) → eqb c d ≡ y → pick x (pick y false true) true ≡ false → (a ≡ b) × (c ≡ d)
    go true p true q z = (eqb-true a b p, eqb-true c d q)
    go true p false q z = absurd (clash z)
    go false p y q z = absurd (clash z)

-- ---- marking
pub mark-yes : (c : Bool) (marks : List ℕ) (x : ℕ) → c ≡ true → set marks x 1 ≡ marked_by c marks x
mark-yes c marks x e = rw e refl

pub mark-no : (c : Bool) (marks : List ℕ) (x : ℕ) → c ≡ false → marks ≡ marked_by c marks x
mark-no c marks x e = rw e refl

mark-length : (c : Bool) (marks : List ℕ) (x : ℕ) → length (marked_by c marks x) ≡ length marks
mark-length true marks x = length-set marks x 1
mark-length false marks x = refl

mark-there : (marks : List ℕ) (x : ℕ) → x < length marks → marked_in (set marks x 1) x ≡ true
mark-there marks x h = ap (ltb 0) (get_or-set_same marks x 1 0 h)

mark-kept : (c : Bool) (marks : List ℕ) (x y : ℕ) → x < length marks → marked_in marks y ≡ true → marked_in (marked_by c marks x) y ≡ true
mark-kept false marks x y h e = e
mark-kept true marks x y h e =
    elim (ℕ_discrete y x) [
      | yes q ↦ ap (λ (z : ℕ). marked_in (set marks x 1) z) q ∙ mark-there marks x h
      | no q ↦ ap (ltb 0) (get_or-set_other marks x y 1 0 q) ∙ e
    ]

mark_made : (c : Bool) (marks : List ℕ) (x : ℕ) → x < length marks → c ≡ true → marked_in (marked_by c marks x) x ≡ true
mark_made c marks x h e = rw e (mark-there marks x h)

module _ (side : Two → ℕ) (w : ℕ) (graph pairs marks : List ℕ) where
  -- the class that pair k marks
  abbrev Class : ℕ → ℕ
  Class k = side (unkey (get_or graph (w * w + k) 0))

  pub marks-length : (k : ℕ) → length (marks_of side w graph pairs marks k) ≡ length marks
  unfolding marks_of
  marks-length zero = refl
  marks-length (suc k) = mark-length (differs_at pairs k) (marks_of side w graph pairs marks k) (Class k) ∙ marks-length k

  -- one turn of the loop
  pub marks-none : marks ≡ marks_of side w graph pairs marks 0
  unfolding marks_of
  marks-none = refl

  pub marks-more : (k : ℕ) (c : Bool) (x : ℕ) (at at' : List ℕ) → at ≡ marks_of side w graph pairs marks k → c ≡ differs_at pairs k → x ≡ Class k → at' ≡ marked_by c at x → at' ≡ marks_of side w graph pairs marks (k + 1)
  unfolding marks_of
  marks-more k c x at at' a e f z = rw (add-one k) (z ∙ (λ i. marked_by (e i) (a i) (f i)))

  -- a pair that differs has marked its class
  pub marks-made : (n : ℕ) → ((k : ℕ) → k < n → Class k < length marks) → (j : ℕ) → j < n → differs_at pairs j ≡ true → marked_in (marks_of side w graph pairs marks n) (Class j) ≡ true
  unfolding marks_of
  marks-made zero low j h e = absurd (not-suc-le-zero h)
  marks-made (suc n) low j h e = go (eq-or-lt_of_le {n = j} {m = n} (omega arith)) (λ l. marks-made n (λ k a. low k (omega arith)) j l e)
    where
      inside : Class n < length (marks_of side w graph pairs marks n)
      inside = rw (marks-length n) (low n (omega arith))

      go : (j ≡ n) ⊎ (j < n) → (j < n → marked_in (marks_of side w graph pairs marks n) (Class j) ≡ true) → marked_in (marked_by (differs_at pairs n) (marks_of side w graph pairs marks n) (Class n)) (Class j) ≡ true
      go (inl q) ih =
          ap (λ (k : ℕ). marked_in (marked_by (differs_at pairs n) (marks_of side w graph pairs marks n) (Class n)) (Class k)) q
          ∙ mark_made (differs_at pairs n) (marks_of side w graph pairs marks n) (Class n) inside (ap (differs_at pairs) (sym q) ∙ e)
      go (inr l) ih = mark-kept (differs_at pairs n) (marks_of side w graph pairs marks n) (Class n) (Class j) inside (ih l)

-- ---- what the pairs have
-- as the code counts the places
pub settled-reads : (pairs : List ℕ) (k : ℕ) (pairs' : List ℕ) → pairs' ≡ given pairs (6 * k) (get_or pairs (6 * k + 3) 0) (get_or pairs (6 * k + 3 + 1) 0) (get_or pairs (6 * k + 3 + 2) 0) → pairs' ≡ settled_at pairs pairs k
settled-reads pairs k pairs' e =
    let x : 6 * k + 3 + 1 ≡ 6 * k + 4 = omega arith in
    let y : 6 * k + 3 + 2 ≡ 6 * k + 5 = omega arith in
    e ∙ (λ i. given pairs (6 * k) (get_or pairs (6 * k + 3) 0) (get_or pairs (x i) 0) (get_or pairs (y i) 0))

-- a pair that has what the round gives it
pub settled-stays : (pairs : List ℕ) (k : ℕ) → differs_at pairs k ≡ false → get_or pairs (6 * k + 2) 0 ≡ get_or pairs (6 * k + 3 + 2) 0 → pairs ≡ settled_at pairs pairs k
unfolding given
settled-stays pairs k e f =
    let z = same_numbers (get_or pairs (6 * k) 0) (get_or pairs (6 * k + 3) 0) (get_or pairs (6 * k + 1) 0) (get_or pairs (6 * k + 4) 0) e in
    let p : 6 * k + 3 + 2 ≡ 6 * k + 5 = omega arith in
    let g : get_or pairs (6 * k + 2) 0 ≡ get_or pairs (6 * k + 5) 0 = f ∙ ap (λ (i : ℕ). get_or pairs i 0) p in
    let a : set pairs (6 * k) (get_or pairs (6 * k + 3) 0) ≡ pairs = ap (set pairs (6 * k)) (sym z.0) ∙ set-get_or pairs (6 * k) 0 in
    let b : set pairs (6 * k + 1) (get_or pairs (6 * k + 4) 0) ≡ pairs = ap (set pairs (6 * k + 1)) (sym z.1) ∙ set-get_or pairs (6 * k + 1) 0 in
    let c : set pairs (6 * k + 2) (get_or pairs (6 * k + 5) 0) ≡ pairs = ap (set pairs (6 * k + 2)) (sym g) ∙ set-get_or pairs (6 * k + 2) 0 in
    sym (ap (λ (l : List ℕ). set (set l (6 * k + 1) (get_or pairs (6 * k + 4) 0)) (6 * k + 2) (get_or pairs (6 * k + 5) 0)) a ∙ ap (λ (l : List ℕ). set l (6 * k + 2) (get_or pairs (6 * k + 5) 0)) b ∙ c)

pub unmoved : (changed : Bool) (old new : ℕ) → moved_by changed old new ≡ false → (changed ≡ false) × (old ≡ new)
unmoved true old new e = absurd (clash e)
unmoved false old new e = go (eqb old new) refl e
  where
    go : (x : Bool) → eqb old new ≡ x → not x ≡ false → (false ≡ false) × (old ≡ new)
    go true q z = (refl, eqb-true old new q)
    go false q z = absurd (clash z)

module _ (pairs : List ℕ) where
  pub settled-none : pairs ≡ settled pairs 0
  unfolding settled
  settled-none = refl

  pub settled-length : (k : ℕ) → length (settled pairs k) ≡ length pairs
  unfolding settled
  settled-length zero = refl
  settled-length (suc k) = given-length (settled pairs k) (6 * k) (get_or pairs (6 * k + 3) 0) (get_or pairs (6 * k + 4) 0) (get_or pairs (6 * k + 5) 0) ∙ settled-length k

  -- what a round gave stays
  pub settled-new : (k j d : ℕ) → d < 3 → get_or (settled pairs k) (6 * j + 3 + d) 0 ≡ get_or pairs (6 * j + 3 + d) 0
  unfolding settled
  settled-new zero j d h = refl
  settled-new (suc k) j d h =
      given-other (settled pairs k) (6 * k) (get_or pairs (6 * k + 3) 0) (get_or pairs (6 * k + 4) 0) (get_or pairs (6 * k + 5) 0) (6 * j + 3 + d) (omega arith) (omega arith) (omega arith)
      ∙ settled-new k j d h

  -- what the pairs from k on have stays
  pub settled-rest : (k i : ℕ) → 6 * k ≤ i → get_or (settled pairs k) i 0 ≡ get_or pairs i 0
  unfolding settled
  settled-rest zero i h = refl
  settled-rest (suc k) i h =
      given-other (settled pairs k) (6 * k) (get_or pairs (6 * k + 3) 0) (get_or pairs (6 * k + 4) 0) (get_or pairs (6 * k + 5) 0) i (omega arith) (omega arith) (omega arith)
      ∙ settled-rest k i (omega arith)

  -- one turn of the loop
  pub settled-more : (k : ℕ) (at at' : List ℕ) → at ≡ settled pairs k → at' ≡ settled_at at at k → at' ≡ settled pairs (k + 1)
  unfolding settled
  settled-more k at at' a e = rw (add-one k) (e ∙ ap (λ (l : List ℕ). settled_at l l k) a ∙ (λ i. given (settled pairs k) (6 * k) (settled-rest k (6 * k + 3) (omega arith) i) (settled-rest k (6 * k + 4) (omega arith) i) (settled-rest k (6 * k + 5) (omega arith) i)))

  pub settled-differs : (k : ℕ) (at : List ℕ) (c : Bool) → at ≡ settled pairs k → c ≡ differs_at at k → c ≡ differs_at pairs k
  settled-differs k at c a e = e ∙ ap (λ (l : List ℕ). differs_at l k) a ∙ (λ i. Differs (settled-rest k (6 * k) (omega arith) i) (settled-rest k (6 * k + 3) (omega arith) i) (settled-rest k (6 * k + 1) (omega arith) i) (settled-rest k (6 * k + 4) (omega arith) i))

  -- the first n pairs have what the round gave them
  pub settled-qualities : (n : ℕ) → 6 * n ≤ length pairs → qualities_in (settled pairs n) 0 n ≡ qualities_in pairs NEW n
  unfolding settled qualities_from
  settled-qualities zero h = refl
  settled-qualities (suc n) h =
      let z : 6 * n ≡ 6 * n + 0 = omega arith in
      let e : 6 * n + 3 + 1 ≡ 6 * n + 4 = omega arith in
      qualities-more (settled pairs n) 0 n (6 * n) (get_or pairs (6 * n + 3) 0) (get_or pairs (6 * n + 4) 0) (get_or pairs (6 * n + 5) 0) z (omega (arith, settled-length n))
      ∙ ap₂ (λ (l : List Two) (y : ℕ). l ++ ((get_or pairs (6 * n + 3) 0, y) ∷ [])) (settled-qualities n (omega arith)) (ap (λ (i : ℕ). get_or pairs i 0) (sym e))
      ∙ sym (qualities-snoc pairs 3 n)

  pub settled-terms : (n : ℕ) → 6 * n ≤ length pairs → terms_in (settled pairs n) 0 n ≡ terms_in pairs NEW n
  unfolding settled terms_from
  settled-terms zero h = refl
  settled-terms (suc n) h =
      let z : 6 * n ≡ 6 * n + 0 = omega arith in
      let e : 6 * n + 3 + 2 ≡ 6 * n + 5 = omega arith in
      terms-more (settled pairs n) 0 n (6 * n) (get_or pairs (6 * n + 3) 0) (get_or pairs (6 * n + 4) 0) (get_or pairs (6 * n + 5) 0) z (omega (arith, settled-length n))
      ∙ ap₂ (λ (l : List ℕ) (y : ℕ). l ++ (y ∷ [])) (settled-terms n (omega arith)) (ap (λ (i : ℕ). get_or pairs i 0) (sym e))
      ∙ sym (terms-snoc pairs 3 n)

  -- a pair that does not differ is given the quality that it has
  pub same-quality : (n k : ℕ) → k < n → differs_at pairs k ≡ false → get_or (qualities_in pairs NEW n) k (0, 0) ≡ get_or (qualities_in pairs 0 n) k (0, 0)
  same-quality n k h e =
      let (a, b) = same_numbers (get_or pairs (6 * k) 0) (get_or pairs (6 * k + 3) 0) (get_or pairs (6 * k + 1) 0) (get_or pairs (6 * k + 4) 0) e in
      let x : 6 * k + 3 + 1 ≡ 6 * k + 4 = omega arith in
      let y : 6 * k + 0 ≡ 6 * k = omega arith in
      quality-at pairs 3 n k h
      ∙ ap₂ (λ (u v : ℕ). (u, v)) (sym a) (ap (λ (i : ℕ). get_or pairs i 0) x ∙ sym b)
      ∙ ap (λ (i : ℕ). (get_or pairs i 0, get_or pairs (i + 1) 0)) (sym y)
      ∙ sym (quality-at pairs 0 n k h)
