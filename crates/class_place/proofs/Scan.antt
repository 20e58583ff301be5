-- The scan for a class's place, the class at it, and the two tests of room.
use mathlib.Core.Path.{◌≡◌, refl, sym, ap, ◌∙◌}
use mathlib.Core.Bool.{Bool, true, false}
use mathlib.Core.List.{List}
use Prim.Native.Nat.{ℕ, suc, ◌+◌, ◌-◌, ◌*◌, ◌/◌, ◌≤◌, ◌<◌, ◌^◌}
use native.Mathlib.Omega.{arith}
use borrow.Author.Tests.{lt-ltb, le-ltb, le-leb, lt-leb, ltb-true, ltb-false}
use lib.Dec.{ltb, leb, eqb}
use lib.ListN.{length, drop, get_or, drop_of_length-le}
use lib.Seq.{drop-cons, get_or-take}
use Rattle.spec.specs.Bytes.{Two, pick}
use Rattle.spec.specs.Monomial.{Monomial}
use Rattle.monomial_terms.specs.Terms.{terms, held, position}
use Rattle.monomial_terms.specs.TermLaws.{held-full}
use Rattle.class_place.specs.Standing.{places, stands}
use Rattle.class_place.specs.StandingLaws.{half-places}

-- ---- position
module _ (c : ℕ) (m : Monomial) (i : ℕ) (h : i < length m) where
  position-more : (get_or m i (0, 0)).0 < c → position c (drop i m) ≡ suc (position c (drop (suc i) m))
  unfolding position
  position-more l = rw (drop-cons m i (0, 0), lt-ltb (get_or m i (0, 0)).0 c l) refl

  position-stop : c ≤ (get_or m i (0, 0)).0 → position c (drop i m) ≡ 0
  unfolding position
  position-stop l = rw (drop-cons m i (0, 0), le-ltb (get_or m i (0, 0)).0 c l) refl

position-end : (c : ℕ) (m : Monomial) (i : ℕ) → length m ≤ i → position c (drop i m) ≡ 0
unfolding position
position-end c m i h = rw drop_of_length-le

-- the turns of the scan: x is the class at place i
module _ (c : ℕ) (s : List ℕ) (n i x : ℕ) (b : 2 * n ≤ length s) (h : i < n) (e : x ≡ (get_or (terms s) i (0, 0)).0) where
  class-is : (get_or (held n s) i (0, 0)).0 ≡ x
  class-is = ap (λ (t : Two). t.0) (get_or-take n (terms s) i (0, 0) h) ∙ sym e

  pub scan-more : x < c → position c (drop i (held n s)) ≡ suc (position c (drop (suc i) (held n s)))
  scan-more f = position-more c (held n s) i (rw (held-full n s b) h) (rw class-is f)

  pub scan-stop : c ≤ x → position c (drop i (held n s)) ≡ 0
  scan-stop f = position-stop c (held n s) i (rw (held-full n s b) h) (rw class-is f)

pub scan-end : (c : ℕ) (s : List ℕ) (n i : ℕ) → 2 * n ≤ length s → n ≤ i → position c (drop i (held n s)) ≡ 0
scan-end c s n i b h = position-end c (held n s) i (rw (held-full n s b) h)

-- ---- the class at its place
module _ (c : ℕ) (s : List ℕ) (n p : ℕ) (b : 2 * n ≤ length s) (e : p ≡ position c (held n s)) where
  pub stands_read : (x : ℕ) → p < n → x ≡ (get_or (terms s) p (0, 0)).0 → eqb x c ≡ stands c (held n s)
  unfolding stands
  stands_read x h f =
      let l : position c (held n s) < length (held n s) = rw (← e, held-full n s b) h in
      let g : (get_or (held n s) (position c (held n s)) (0, 0)).0 ≡ x = rw (← e) (ap (λ (t : Two). t.0) (get_or-take n (terms s) p (0, 0) h) ∙ sym f) in
      rw (lt-ltb (position c (held n s)) (length (held n s)) l, g) refl

  pub stands-past : n ≤ p → false ≡ stands c (held n s)
  unfolding stands
  stands-past h = let l : length (held n s) ≤ position c (held n s) = rw (← e, held-full n s b) h in rw (le-ltb (position c (held n s)) (length (held n s)) l) refl

-- ---- the two tests
pub lacks-stood : (x y : Bool) → x ≡ true → false ≡ pick x false y
lacks-stood x y e = rw e refl

pub lacks-new : (x : Bool) (s : List ℕ) (n : ℕ) → x ≡ false → leb (length s / 2) n ≡ pick x false (leb (places s) n)
lacks-new x s n e = rw (e, half-places s) refl

over-test : (y k : ℕ) → k < 2 ^ 64 → ltb (18446744073709551615 - k) y ≡ leb (2 ^ 64) (y + k)
over-test y k b = step (ltb (18446744073709551615 - k) y) refl
  where
    step : (x : Bool) → ltb (18446744073709551615 - k) y ≡ x → x ≡ leb (2 ^ 64) (y + k)
    step true e = sym (le-leb (2 ^ 64) (y + k) (omega (arith, ltb-true (18446744073709551615 - k) y e)))
    step false e = sym (lt-leb (2 ^ 64) (y + k) (omega (arith, ltb-false (18446744073709551615 - k) y e)))

pub over-stood : (x : Bool) (y z k : ℕ) → x ≡ true → y ≡ z → k < 2 ^ 64 → ltb (18446744073709551615 - k) y ≡ pick x (leb (2 ^ 64) (z + k)) false
over-stood x y z k e f b = rw (e, ← f) (over-test y k b)

pub over-new : (x y : Bool) → x ≡ false → false ≡ pick x y false
over-new x y e = rw e refl
