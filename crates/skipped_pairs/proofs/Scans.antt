-- The turns of the scans for kin, and of the sums over pairs.
use mathlib.Core.Path.{◌≡◌, refl, sym, ◌∙◌}
use mathlib.Core.Bool.{Bool, true, false}
use Prim.Native.Nat.{ℕ, suc, ◌+◌, ◌-◌, ◌≤◌, ◌<◌}
use native.Mathlib.Nat.{sub-zero}
use native.Mathlib.Omega.{arith}
use native.Mathlib.Numerals.{add-one}
use lib.Dec.{leb, eqb}
use Rattle.spec.specs.Bytes.{pick, both, any, sum_to, up_from}
use Rattle.skips.specs.Facts.{Facts, kin_with, kin_within, counts, skipped_by}

-- ---- one of the numbers from a to before n
abbrev pub from : (ℕ → Bool) → ℕ → ℕ → Bool
from P n a = any P (up_from a (n - a))

module _ (P : ℕ → Bool) (n a : ℕ) (b : Bool) (h : a < n) (q : b ≡ P a) where
  one_more : n - a ≡ suc (n - (a + 1))
  one_more = omega arith

  from-stop : b ≡ true → from P n a ≡ true
  unfolding any up_from
  from-stop z = let y : P a ≡ true = sym q ∙ z in rw (one_more, any, y) refl

  from_more : b ≡ false → from P n a ≡ from P n (a + 1)
  unfolding any up_from
  from_more z = let y : P a ≡ false = sym q ∙ z in rw (one_more, any, y, add-one) refl

from_end : (P : ℕ → Bool) (n a : ℕ) → n ≤ a → from P n a ≡ false
unfolding any up_from
from_end P n a h = let z : n - a ≡ 0 = omega arith in rw z refl

-- ---- kin
abbrev pub equal : Facts → ℕ → ℕ → ℕ → Bool
equal f i x a = both (eqb (f.kin a) (f.kin i)) (eqb (f.total a) x)

abbrev pub most : Facts → ℕ → ℕ → ℕ → Bool
most f i x a = both (eqb (f.kin a) (f.kin i)) (leb (f.total a) x)

module _ (f : Facts) (n i x : ℕ) where
  pub with-start : from (equal f i x) n 0 ≡ kin_with f n i x
  unfolding kin_with
  with-start = rw (sub-zero n) refl

  pub within-start : from (most f i x) n 0 ≡ kin_within f n i x
  unfolding kin_within
  within-start = rw (sub-zero n) refl

module _ (f : Facts) (n i x k a : ℕ) (b : Bool) (e : k ≡ f.kin i) (h : a < n) where
  module _ (q : b ≡ both (eqb (f.kin a) k) (eqb (f.total a) x)) (inv : from (equal f i x) n a ≡ kin_with f n i x) where
    here : b ≡ equal f i x a
    here = rw e at q

    pub with-stop : b ≡ true → true ≡ kin_with f n i x
    with-stop z = sym (from-stop (equal f i x) n a b h here z) ∙ inv

    pub with-more : b ≡ false → from (equal f i x) n (a + 1) ≡ kin_with f n i x
    with-more z = sym (from_more (equal f i x) n a b h here z) ∙ inv

  module _ (q : b ≡ both (eqb (f.kin a) k) (leb (f.total a) x)) (inv : from (most f i x) n a ≡ kin_within f n i x) where
    there : b ≡ most f i x a
    there = rw e at q

    pub within-stop : b ≡ true → true ≡ kin_within f n i x
    within-stop z = sym (from-stop (most f i x) n a b h there z) ∙ inv

    pub within_more : b ≡ false → from (most f i x) n (a + 1) ≡ kin_within f n i x
    within_more z = sym (from_more (most f i x) n a b h there z) ∙ inv

module _ (f : Facts) (n i x a : ℕ) (h : n ≤ a) where
  pub with-end : from (equal f i x) n a ≡ kin_with f n i x → false ≡ kin_with f n i x
  with-end inv = sym (from_end (equal f i x) n a h) ∙ inv

  pub within_end : from (most f i x) n a ≡ kin_within f n i x → false ≡ kin_within f n i x
  within_end inv = sym (from_end (most f i x) n a h) ∙ inv

-- ---- sums
abbrev pub in_row : ℕ → Facts → Facts → ℕ → ℕ → ℕ → ℕ
in_row e f g n i = λ j. pick (counts e f g n i j) 1 0

abbrev pub in_rows : ℕ → Facts → Facts → ℕ → ℕ → ℕ
in_rows e f g n = λ i. sum_to n (in_row e f g n i)

pub sum_more : (F : ℕ → ℕ) (j s y : ℕ) → s ≡ sum_to j F → y ≡ F j → s + y ≡ sum_to (j + 1) F
unfolding sum_to
sum_more F j s y e q = rw (add-one, e, q) refl

pub row_more : (e : ℕ) (f g : Facts) (n i j s y : ℕ) (b : Bool) → s ≡ sum_to j (in_row e f g n i) → b ≡ counts e f g n i j → y ≡ pick b 1 0 → s + y ≡ sum_to (j + 1) (in_row e f g n i)
row_more e f g n i j s y b h q z = sum_more (in_row e f g n i) j s y h (rw q at z)

pub rows_end : (e : ℕ) (f g : Facts) (m n i s : ℕ) → i ≡ m → s ≡ sum_to i (in_rows e f g n) → s ≡ skipped_by e f g m n
unfolding skipped_by
rows_end e f g m n i s q h = rw q at h
