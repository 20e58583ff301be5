-- The sum of two's complement values by their words. Assumes nothing.
use Rattle.std.proofs.Common.{◌≡◌, ℕ, ◌+◌, ◌-◌, ◌*◌, ◌/◌, ◌%◌, ◌^◌, ◌<◌, ◌≤◌, ◌⊎◌, pos, ◌+ℤ◌, ◌-ℤ◌, nat_abs, sym, ap, ◌∙◌, inl, inr, mul-add, arith}
use native.Mathlib.Decide.{dec_lt}
use Rattle.wide.specs.declared.Wide.{Wide}
use Rattle.wide.specs.Value.{val, Within}
use Rattle.wide.specs.Diff.{diff-add, diff-eq, nat_abs-neg}
use Rattle.wide.specs.Wrap.{carry, add_words, split}
use Rattle.wide.specs.Sign.{val-low, val-under, set-top}

-- ---- at any base B: l the low words, h the high ones, t the top bits, k the carry or borrow
sum-words : (B la ha ta lb hb tb lr hr tr k : ℕ) → la + lb ≡ lr + B * k → ha + hb + k + B * tr ≡ hr + (B * ta + B * tb)
    → pos (lr + B * hr) -ℤ pos (B * (B * tr)) ≡ (pos (la + B * ha) -ℤ pos (B * (B * ta))) +ℤ (pos (lb + B * hb) -ℤ pos (B * (B * tb)))
sum-words B la ha ta lb hb tb lr hr tr k e f =
    diff-eq (lr + B * hr) (B * (B * tr)) (la + B * ha + (lb + B * hb)) (B * (B * ta) + B * (B * tb)) (omega (arith, simp mul-add at (ap (λ (x : ℕ). B * x) f)))
    ∙ sym (diff-add (la + B * ha) (B * (B * ta)) (lb + B * hb) (B * (B * tb)))

-- ---- a bound on the value is one on the high word
-- the high word is less than m away from zero, with its top bit t
unfoldable pub Side : ℕ → ℕ → ℕ → Type 0
Side m h t = ((h < m) × (t ≡ 0)) ⊎ ((2 ^ 64 ≤ h + m) × (t ≡ 1))

high-above : (l h m : ℕ) → l + 2 ^ 64 * h < 2 ^ 64 * m → h < m
high-above l h m b = omega arith

high-under : (l d m : ℕ) → l < 2 ^ 64 → 2 ^ 64 * d - l < 2 ^ 64 * m → d ≤ m
high-under l d m h b = omega arith

from-top : (B h m : ℕ) → B - h ≤ m → B ≤ h + m
from-top B h m b = omega arith

side-by : (m : ℕ) (w : Wide) → w.lo < 2 ^ 64 → w.hi < 2 ^ 64 → nat_abs (val w) < 2 ^ 64 * m → Dec (w.hi < 2 ^ 63) → Side m w.hi (w.hi / 2 ^ 63)
unfolding Side
side-by m w l h b (yes x) = inl (high-above w.lo w.hi m (rw (val-low w x) at b), omega arith)
side-by m w l h b (no x) =
    let e = val-under w (2 ^ 64 - w.hi) l h (omega arith) (omega arith) in
    let n = high-under w.lo (2 ^ 64 - w.hi) m l (rw (e, nat_abs-neg (2 ^ 64 * (2 ^ 64 - w.hi) - w.lo)) at b) in
    inr (from-top (2 ^ 64) w.hi m n, set-top w.hi h (omega arith))

pub side : (m : ℕ) (w : Wide) → w.lo < 2 ^ 64 → w.hi < 2 ^ 64 → nat_abs (val w) < 2 ^ 64 * m → Side m w.hi (w.hi / 2 ^ 63)
side m w l h b = side-by m w l h b (dec_lt w.hi (2 ^ 63))

-- ---- the high words
high-add : (a b r k c ta tb : ℕ) → Side (2 ^ 54) a ta → Side (2 ^ 54) b tb → a < 2 ^ 64 → b < 2 ^ 64 → r < 2 ^ 64 → k < 2 → c < 2 → a + b + k ≡ r + 2 ^ 64 * c
    → a + b + k + 2 ^ 64 * (r / 2 ^ 63) ≡ r + (2 ^ 64 * ta + 2 ^ 64 * tb)
unfolding Side
high-add a b r k c ta tb (inl x) (inl y) la lb lr hk hc e = omega arith
high-add a b r k c ta tb (inl x) (inr y) la lb lr hk hc e = omega arith
high-add a b r k c ta tb (inr x) (inl y) la lb lr hk hc e = omega arith
high-add a b r k c ta tb (inr x) (inr y) la lb lr hk hc e = omega arith

-- ---- the laws that the code cites
-- the words of a number are in range
pub record Words (w : Wide) : Type 0 where
  pub low : w.lo < 2 ^ 64
  pub high : w.hi < 2 ^ 64

over : (s : ℕ) → s < 2 ^ 64 + 2 ^ 64 → s / 2 ^ 64 < 2
over s h = omega arith

pub add-law : (a b : Wide) → Words a → Words b → Within 118 a → Within 118 b → val (add_words a b) ≡ val a +ℤ val b
unfolding val add_words
add-law a b p q u v =
    let k = carry a b in
    let t = a.hi + b.hi + k in
    let hk : k < 2 = over (a.lo + b.lo) (omega (arith, p.low, q.low)) in
    sum-words (2 ^ 64) a.lo a.hi (a.hi / 2 ^ 63) b.lo b.hi (b.hi / 2 ^ 63) ((a.lo + b.lo) % 2 ^ 64) (t % 2 ^ 64) (t % 2 ^ 64 / 2 ^ 63) k (sym (split (a.lo + b.lo)))
    (high-add a.hi b.hi (t % 2 ^ 64) k (t / 2 ^ 64) (a.hi / 2 ^ 63) (b.hi / 2 ^ 63) (side (2 ^ 54) a p.low p.high u) (side (2 ^ 54) b q.low q.high v) p.high q.high (omega arith) hk (over t (omega (arith, p.high, q.high, hk))) (sym (split t)))
