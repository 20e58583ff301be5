-- Laws of the list: how it lies in a buffer; how long a list is with a child more, and what count the child's class has then.
use Rattle.std.specs.Prelude.{◌≡◌, Bool, true, false, List, [], ◌∷◌, ◌++◌, ℕ, suc, ◌+◌, ◌≤◌, ◌<◌, ltb, eqb, length, take, drop, get_or, set}
use Rattle.std.proofs.Math.Path.{refl}
use Rattle.std.proofs.Common.{sym, ap, ◌∙◌, suc-le-suc, zero-le, not-suc-le-zero, le_of_suc-le-suc, arith, length-append, length-take, length-drop, length-set, take_at, get_or-set_same, length-take-le}
use borrow.Author.Tests.{lt-ltb, eq-eqb, ne_eqb}
use Rattle.std.proofs.lemmas.List.{get_or_at}
use Rattle.spec.specs.Bytes.{Two, pick}
use Rattle.spec.specs.Monomial.{Monomial, insert_add}
use Rattle.laws.specs.Tests.{clash}
use Rattle.monomial_terms.specs.Terms.{terms, rest, held, position, front}
use Rattle.class_place.specs.Standing.{places, stands, count_there}
use Rattle.class_place.specs.StandingLaws.{stands-there}
use Rattle.child_list.specs.Adding.{count_with, laid}

-- ---- buffers
pub laid-terms : (m : Monomial) (s : List ℕ) → length m ≤ places s → terms (laid m s) ≡ front m (terms s)
unfolding laid terms
laid-terms [] s h = refl
laid-terms (t ∷ m) [] h = absurd (not-suc-le-zero h)
laid-terms (t ∷ m) (x ∷ []) h = absurd (not-suc-le-zero h)
laid-terms (t ∷ m) (x ∷ y ∷ s) h = ap (λ (l : List Two). (t.0, t.1) ∷ l) (laid-terms m s (le_of_suc-le-suc h))

pub laid-rest : (m : Monomial) (s : List ℕ) → length m ≤ places s → rest (laid m s) ≡ rest s
unfolding laid terms rest
laid-rest [] s h = refl
laid-rest (t ∷ m) [] h = absurd (not-suc-le-zero h)
laid-rest (t ∷ m) (x ∷ []) h = absurd (not-suc-le-zero h)
laid-rest (t ∷ m) (x ∷ y ∷ s) h = laid-rest m s (le_of_suc-le-suc h)

pub held-laid : (m : Monomial) (s : List ℕ) → length m ≤ places s → held (length m) (laid m s) ≡ m
held-laid m s h = rw (laid-terms m s h) (take_at m (drop (length m) (terms s)) (length m) refl)

-- ---- a class and its place
position-le : (c : ℕ) (m : Monomial) → position c m ≤ length m
unfolding position
position-le c [] = zero-le
position-le c (t ∷ m) = step (ltb t.0 c) (position-le c m)
  where
    step : (b : Bool) → position c m ≤ length m → pick b (suc (position c m)) 0 ≤ suc (length m)
    step true h = suc-le-suc h
    step false h = zero-le

module _ (c : ℕ) (m : Monomial) where
  stands_by : position c m < length m → (get_or m (position c m) (0, 0)).0 ≡ c → stands c m ≡ true
  unfolding stands
  stands_by h e = rw (lt-ltb (position c m) (length m) h, eq-eqb (get_or m (position c m) (0, 0)).0 c e) refl

  stands-not : stands c m ≡ false → position c m < length m → (get_or m (position c m) (0, 0)).0 ≡ c → ⊥
  stands-not n h e = clash (sym (stands_by h e) ∙ n)

-- the class stands there: its count grows
abbrev Hit : ℕ → ℕ → Monomial → Type 0
Hit c k m =
    position c m < length m → (get_or m (position c m) (0, 0)).0 ≡ c
    → insert_add c k m ≡ set m (position c m) (c, (get_or m (position c m) (0, 0)).1 + k)

hit-step : (c k : ℕ) (t : Two) (m : Monomial) (b : Bool) → ltb t.0 c ≡ b → Hit c k m → Hit c k (t ∷ m)
unfolding insert_add position
hit-step c k t m true q ih = λ h e. rw (q, insert_add) (ap (λ (l : Monomial). t ∷ l) (ih (le_of_suc-le-suc (rw q at h)) (rw q at e)))
hit-step c k t m false q ih = λ h e.
    let z : eqb t.0 c ≡ true = eq-eqb t.0 c (rw q at e) in
    rw (q, insert_add, z) refl

hit-all : (c k : ℕ) (m : Monomial) → Hit c k m
hit-all c k [] = λ h e. absurd (not-suc-le-zero h)
hit-all c k (t ∷ m) = hit-step c k t m (ltb t.0 c) refl (hit-all c k m)

-- the class does not: it is inserted
abbrev Miss : ℕ → ℕ → Monomial → Type 0
Miss c k m =
    (position c m < length m → (get_or m (position c m) (0, 0)).0 ≡ c → ⊥)
    → insert_add c k m ≡ take (position c m) m ++ (c, k) ∷ drop (position c m) m

miss-step : (c k : ℕ) (t : Two) (m : Monomial) (b : Bool) → ltb t.0 c ≡ b → Miss c k m → Miss c k (t ∷ m)
unfolding insert_add position
miss-step c k t m true q ih = λ n. rw (q, insert_add) (ap (λ (l : Monomial). t ∷ l) (ih (λ h e. n (rw q (suc-le-suc h)) (rw q e))))
miss-step c k t m false q ih = λ n.
    let z : eqb t.0 c ≡ false = ne_eqb t.0 c (λ e. n (rw q (suc-le-suc zero-le)) (rw q e)) in
    rw (q, insert_add, z) refl

miss-all : (c k : ℕ) (m : Monomial) → Miss c k m
unfolding insert_add position
miss-all c k [] = λ n. refl
miss-all c k (t ∷ m) = miss-step c k t m (ltb t.0 c) refl (miss-all c k m)

module _ (c k : ℕ) (m : Monomial) where
  pub hit : stands c m ≡ true → insert_add c k m ≡ set m (position c m) (c, count_there c m + k)
  hit e = hit-all c k m (stands-there c m e).0 (stands-there c m e).1

  pub miss : stands c m ≡ false → insert_add c k m ≡ take (position c m) m ++ (c, k) ∷ drop (position c m) m
  miss e = miss-all c k m (stands-not c m e)

  -- ---- lengths
  pub hit-length : stands c m ≡ true → length (insert_add c k m) ≡ length m
  hit-length e = rw (hit e) (length-set m (position c m) (c, count_there c m + k))

  pub miss-length : stands c m ≡ false → length (insert_add c k m) ≡ suc (length m)
  miss-length e = rw (miss e) (simp (length-append, length-take, length-drop) (omega (arith, position-le c m)))

  -- ---- counts
  pub hit-count : stands c m ≡ true → count_with c k m ≡ count_there c m + k
  hit-count e = ap (λ (x : Monomial). (get_or x (position c m) (0, 0)).1) (hit e) ∙ (ap (λ (t : Two). t.1) (get_or-set_same m (position c m) (c, count_there c m + k) (0, 0) (stands-there c m e).0))

  pub miss-count : stands c m ≡ false → count_with c k m ≡ k
  miss-count e = ap (λ (x : Monomial). (get_or x (position c m) (0, 0)).1) (miss e) ∙ (ap (λ (t : Two). t.1) (get_or_at (take (position c m) m) (c, k) (drop (position c m) m) (0, 0) (position c m) (length-take-le (position c m) m (position-le c m))))
