-- The tests of a pair, one law for each way out.
use mathlib.Core.Path.{◌≡◌, refl, sym, ◌∙◌}
use mathlib.Core.Bool.{Bool, true, false, not}
use mathlib.Core.List.{List, [], ◌∷◌}
use Prim.Native.Nat.{ℕ}
use native.Mathlib.Omega.{arith}
use borrow.Author.Tests.{le-leb, eq-eqb, ne_eqb, eqb-true}
use lib.Dec.{leb, eqb}
use Rattle.spec.specs.Bytes.{pick, both, either, any, up_from}
use Rattle.laws.specs.Tests.{clash, both_true}
use Rattle.skips.specs.Facts.{Facts, common, over, kin_with, kin_within, again, counts}

-- ---- the same pair again
-- who has the total has at most the total
none-weaker : (P Q : ℕ → Bool) (l : List ℕ) → ((a : ℕ) → P a ≡ true → Q a ≡ true) → any Q l ≡ false → any P l ≡ false
unfolding any
none-weaker P Q [] h q = refl
none-weaker P Q (a ∷ l) h q = step (P a) refl (Q a) refl (none-weaker P Q l h)
  where
    step : (b : Bool) → P a ≡ b → (d : Bool) → Q a ≡ d → (any Q l ≡ false → any P l ≡ false) → any P (a ∷ l) ≡ false
    step true y d z ih = absurd (clash (let w : any Q (a ∷ l) ≡ true = rw (any, h a y) refl in sym w ∙ q))
    step false y true z ih = absurd (clash (let w : any Q (a ∷ l) ≡ true = rw (any, z) refl in sym w ∙ q))
    step false y false z ih = rw (any, y) (ih (let w : any Q (a ∷ l) ≡ any Q l = rw (any, z) refl in sym w ∙ q))

with_none : (f : Facts) (n i x : ℕ) → kin_within f n i x ≡ false → kin_with f n i x ≡ false
unfolding kin_with kin_within
with_none f n i x q =
    none-weaker (λ a. both (eqb (f.kin a) (f.kin i)) (eqb (f.total a) x)) (λ a. both (eqb (f.kin a) (f.kin i)) (leb (f.total a) x)) (up_from 0 n)
    (λ a h.
    let (y, z) = (both_true (eqb (f.kin a) (f.kin i)) (eqb (f.total a) x)).0 h in
    (both_true (eqb (f.kin a) (f.kin i)) (leb (f.total a) x)).1 (y, le-leb (f.total a) x (omega (arith, eqb-true (f.total a) x z)))) q

pub left-none : (f : Facts) (i x : ℕ) (p r : Bool) → p ≡ kin_within f i i x → p ≡ false → false ≡ either (kin_with f i i x) (both (kin_within f i i x) r)
left-none f i x p r e h = let z : kin_within f i i x ≡ false = sym e ∙ h in rw (with_none f i i x z, z) refl

pub left_here : (w q r p : Bool) → p ≡ w → p ≡ true → true ≡ either w (both q r)
left_here w q r p e h = let z : w ≡ true = sym e ∙ h in rw z refl

pub left-beside : (w q r p s y : Bool) → s ≡ q → s ≡ true → p ≡ w → p ≡ false → y ≡ r → y ≡ either w (both q r)
left-beside w q r p s y a b c d k =
    let z : w ≡ false = sym c ∙ d in
    let v : q ≡ true = sym a ∙ b in
    rw (z, v) k

module _ (y z x : ℕ) (e : y ≡ z) (a b p : Bool) where
  pub right-even : y ≡ x → p ≡ a → p ≡ pick (eqb z x) a b
  right-even h q = rw (eq-eqb z x (sym e ∙ h)) q

  pub right-uneven : (y ≡ x → ⊥) → p ≡ b → p ≡ pick (eqb z x) a b
  right-uneven n q = rw (ne_eqb z x (λ h. n (e ∙ h))) q

module _ (f g : Facts) (n i j x : ℕ) (e : x ≡ common f g i j) (p : Bool) (h : p ≡ either (kin_with f i i x) (both (kin_within f i i x) (kin_with g n j x))) where
  pub again-left : p ≡ true → true ≡ again f g n i j
  unfolding again
  again-left z = let y : either (kin_with f i i x) (both (kin_within f i i x) (kin_with g n j x)) ≡ true = sym h ∙ z in rw (← e) (either_left (kin_with f i i x) (both (kin_within f i i x) (kin_with g n j x)) _ y)
    where
      either_left : (u v w : Bool) → either u v ≡ true → true ≡ either u (either v w)
      either_left true v w q = refl
      either_left false true w q = refl
      either_left false false w q = absurd (clash (sym q))

  pub again-right : (y : Bool) → p ≡ false → y ≡ pick (eqb (f.total i) x) (kin_within g j j x) (kin_with g j j x) → y ≡ again f g n i j
  unfolding again
  again-right y z q = let w : either (kin_with f i i x) (both (kin_within f i i x) (kin_with g n j x)) ≡ false = sym h ∙ z in rw (← e) (q ∙ either-right (kin_with f i i x) (both (kin_within f i i x) (kin_with g n j x)) _ w)
    where
      either-right : (u v w : Bool) → either u v ≡ false → w ≡ either u (either v w)
      either-right true v w q = absurd (clash q)
      either-right false true w q = absurd (clash q)
      either-right false false w q = refl

-- ---- counted
module _ (e : ℕ) (f g : Facts) (n i j : ℕ) (p : Bool) (h : p ≡ over e f g i j) where
  pub counts-no : p ≡ false → false ≡ counts e f g n i j
  unfolding counts
  counts-no z = let y : over e f g i j ≡ false = sym h ∙ z in rw y refl

  pub counts-over : (q : Bool) → p ≡ true → q ≡ again f g n i j → not q ≡ counts e f g n i j
  unfolding counts
  counts-over q z r = let y : over e f g i j ≡ true = sym h ∙ z in rw (y, r) refl
