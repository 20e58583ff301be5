-- The turns of the scans over a monomial's counts, and the test for a class itself once.
use mathlib.Core.Path.{◌≡◌, refl, sym, ap, ◌∙◌}
use mathlib.Core.Bool.{Bool, true, false}
use mathlib.Core.List.{List, [], ◌∷◌}
use Prim.Native.Nat.{ℕ, suc, ◌+◌, ◌≤◌, ◌<◌}
use native.Mathlib.Omega.{arith}
use borrow.Author.Tests.{eq-eqb, ne_eqb}
use lib.Dec.{eqb}
use lib.ListN.{length, drop, get_or, drop_of_length-le}
use lib.Seq.{drop-cons, get_or-take}
use Rattle.spec.specs.Bytes.{Two, both, sum, same_two, same_twos}
use Rattle.std.proofs.Common.{Option, Some, None, is_some, not}
use Rattle.spec.specs.Monomial.{Monomial, total, itself, narrow, fails_at}
use Rattle.laws.specs.Tests.{clash}
use Rattle.narrowing.specs.Narrowing.{narrowed_of}
use Rattle.narrowing.specs.NarrowLaws.{fits-narrow, fails-narrow}
use Rattle.monomial_terms.specs.Terms.{terms, held}
use Rattle.monomial_terms.specs.TermLaws.{held-length}

-- ---- turns: y is the count at place i
module _ (s : List ℕ) (n i y : ℕ) (l : length s ≡ 130) (b : n ≤ 65) (h : i < n) (e : y ≡ (get_or (terms s) i (0, 0)).1) where
  rest : drop i (held n s) ≡ get_or (terms s) i (0, 0) ∷ drop (suc i) (held n s)
  rest = drop-cons (held n s) i (0, 0) (rw (held-length n s l b) h) ∙ ap (λ (t : Two). t ∷ drop (suc i) (held n s)) (get_or-take n (terms s) i (0, 0) h)

  pub total-more : total (drop i (held n s)) ≡ y + total (drop (suc i) (held n s))
  unfolding total sum
  total-more = rw (rest, e) refl

module _ (s : List ℕ) (n i : ℕ) (l : length s ≡ 130) (b : n ≤ 65) (h : n ≤ i) where
  none : drop i (held n s) ≡ []
  none = drop_of_length-le (held n s) {i = i} (rw (held-length n s l b) h)

  pub total-end : total (drop i (held n s)) ≡ 0
  unfolding total sum
  total-end = rw none refl

-- ---- a class itself once
itself-long : (t u : Two) (m : Monomial) (c : ℕ) → same_twos (t ∷ u ∷ m) (itself c) ≡ false
unfolding same_twos
itself-long t u m c = step (same_two t (c, 1)) refl
  where
    step : (b : Bool) → same_two t (c, 1) ≡ b → same_twos (t ∷ u ∷ m) (itself c) ≡ false
    step true e = rw (same_twos, e) refl
    step false e = rw (same_twos, e) refl

pub itself-not-one : (m : Monomial) (c : ℕ) → (length m ≡ 1 → ⊥) → same_twos m (itself c) ≡ false
unfolding same_twos
itself-not-one [] c h = refl
itself-not-one (t ∷ []) c h = absurd (h refl)
itself-not-one (t ∷ u ∷ m) c h = itself-long t u m c

itself-one : (m : Monomial) (c : ℕ) → length m ≡ 1 → same_twos m (itself c) ≡ same_two (get_or m 0 (0, 0)) (c, 1)
unfolding same_twos
itself-one [] c h = absurd (omega arith)
itself-one (t ∷ []) c h = step (same_two t (c, 1)) refl
  where
    step : (b : Bool) → same_two t (c, 1) ≡ b → same_twos (t ∷ []) (itself c) ≡ same_two t (c, 1)
    step true e = rw (same_twos, e) refl
    step false e = rw (same_twos, e) refl
itself-one (t ∷ u ∷ m) c h = absurd (omega arith)

module _ (s : List ℕ) (n c : ℕ) (l : length s ≡ 130) (b : n ≤ 65) where
  pub itself-length : (n ≡ 1 → ⊥) → same_twos (held n s) (itself c) ≡ false
  itself-length h = itself-not-one (held n s) c (λ e. h (sym (held-length n s l b) ∙ e))

  one : n ≡ 1 → same_twos (held n s) (itself c) ≡ both (eqb (get_or (terms s) 0 (0, 0)).0 c) (eqb (get_or (terms s) 0 (0, 0)).1 1)
  one h =
      itself-one (held n s) c (held-length n s l b ∙ h)
      ∙ ap (λ (t : Two). same_two t (c, 1)) (get_or-take n (terms s) 0 (0, 0) (omega arith))

  pub itself-class : (x : ℕ) → n ≡ 1 → x ≡ (get_or (terms s) 0 (0, 0)).0 → (x ≡ c → ⊥) → same_twos (held n s) (itself c) ≡ false
  itself-class x h e f = one h ∙ rw (← e, ne_eqb x c f) refl

  pub itself-count : (x y : ℕ) → n ≡ 1 → x ≡ (get_or (terms s) 0 (0, 0)).0 → x ≡ c → y ≡ (get_or (terms s) 0 (0, 0)).1 → same_twos (held n s) (itself c) ≡ eqb y 1
  itself-count x y h e f g = one h ∙ rw (← e, ← g, eq-eqb x c f) refl

-- no count is too large: what `narrow` says
pub fits_is : (x : Option ℕ) (b : Bool) (m : Monomial) → x ≡ narrowed_of (fails_at m) → is_some x ≡ not b → b ≡ narrow m
fits_is None true m e h = sym (fits-narrow m e)
fits_is None false m e h = absurd (clash (sym h))
fits_is (Some i) true m e h = absurd (clash h)
fits_is (Some i) false m e h = sym (fails-narrow m i e)
