-- A two's complement value times a half, by words; the weights of costs. Assumes nothing.
use Rattle.std.proofs.Common.{◌≡◌, ℕ, ◌+◌, ◌-◌, ◌*◌, ◌/◌, ◌^◌, ◌<◌, ◌≤◌, ℤ, pos, ◌+ℤ◌, ◌-ℤ◌, ◌*ℤ◌, nat_abs, sym, ap, ◌∙◌, inl, inr, le_of_lt, mul-le-mul_right, mul_assoc, add-mul, mul-le-mul, one-mul, zero-mul, mul-add, arith}
use lib.IntN.{*ℤ_comm}
use Rattle.wide.specs.declared.Wide.{Wide}
use Rattle.wide.specs.Value.{val, unsigned, Within, weigh_of}
use Rattle.wide.specs.Diff.{diff-eq, diff-mul, nat_abs-times}
use Rattle.wide.proofs.Words.{Words, Side, side}

-- ---- at any base B: l, h the words with the top bit t, p and q their products with k, c the carry between them
times_words : (B l h t k pl ph ql qh hr tr c : ℕ) → pl + B * ph ≡ l * k → ql + B * qh ≡ h * k → ph + ql ≡ hr + B * c → c + qh + tr ≡ t * k
    → pos (pl + B * hr) -ℤ pos (B * (B * tr)) ≡ (pos (l + B * h) -ℤ pos (B * (B * t))) *ℤ pos k
times_words B l h t k pl ph ql qh hr tr c e f g d =
    diff-eq (pl + B * hr) (B * (B * tr)) ((l + B * h) * k) (B * (B * t) * k)
    (omega (arith, add-mul l (B * h) k, mul_assoc B h k, simp mul-add at (ap (λ (x : ℕ). B * x) f), simp mul-add at (ap (λ (x : ℕ). B * x) g), simp mul-add at (ap (λ (x : ℕ). B * (B * x)) d), mul_assoc B (B * t) k ∙ ap (λ (x : ℕ). B * x) (mul_assoc B t k)))
    ∙ sym (diff-mul (l + B * h) (B * (B * t)) k)

-- ---- the carry of a number less than 2^86 away from zero
top : (l k pl ph : ℕ) → l < 2 ^ 64 → pl + 2 ^ 64 * ph ≡ l * k → ph ≤ k
top l k pl ph h e = omega (arith, mul-le-mul_right k (le_of_lt h))

above : (h k ph ql qh hr c : ℕ) → ph ≤ k → k < 2 ^ 32 → hr < 2 ^ 64 → ql < 2 ^ 64 → h ≤ 2 ^ 22 → ql + 2 ^ 64 * qh ≡ h * k → ph + ql ≡ hr + 2 ^ 64 * c → c + qh + hr / 2 ^ 63 ≡ 0
above h k ph ql qh hr c p lk lr lq w f g = omega (arith, mul-le-mul_right k w)

under : (h d k ph ql qh hr c : ℕ) → ph ≤ k → k < 2 ^ 32 → hr < 2 ^ 64 → ql < 2 ^ 64 → h + d ≡ 2 ^ 64 → 1 ≤ d → d ≤ 2 ^ 22 → ql + 2 ^ 64 * qh ≡ h * k → ph + ql ≡ hr + 2 ^ 64 * c → c + qh + hr / 2 ^ 63 ≡ k
under h d k ph ql qh hr c p lk lr lq s one w f g = omega (arith, mul-le-mul_right k w, mul-le-mul_right k one, sym (add-mul h d k) ∙ ap (λ (x : ℕ). x * k) s)

carry : (l h t k pl ph ql qh hr c : ℕ) → l < 2 ^ 64 → h < 2 ^ 64 → k < 2 ^ 32 → hr < 2 ^ 64 → ql < 2 ^ 64 → Side (2 ^ 22) h t → pl + 2 ^ 64 * ph ≡ l * k → ql + 2 ^ 64 * qh ≡ h * k → ph + ql ≡ hr + 2 ^ 64 * c
    → c + qh + hr / 2 ^ 63 ≡ t * k
unfolding Side
carry l h t k pl ph ql qh hr c ll lh lk lr lq (inl y) e f g =
    above h k ph ql qh hr c (top l k pl ph ll e) lk lr lq (omega arith) f g ∙ sym (ap (λ (x : ℕ). x * k) y.1 ∙ zero-mul k)
carry l h t k pl ph ql qh hr c ll lh lk lr lq (inr y) e f g =
    under h (2 ^ 64 - h) k ph ql qh hr c (top l k pl ph ll e) lk lr lq (omega arith) (omega arith) (omega arith) f g ∙ sym (ap (λ (x : ℕ). x * k) y.1 ∙ one-mul k)

-- ---- the laws that the code cites
pub times-law : (a p q r : Wide) (k c : ℕ) → Words a → Words q → Words r → k < 2 ^ 32 → Within 86 a → unsigned p ≡ a.lo * k → unsigned q ≡ a.hi * k → p.lo ≡ r.lo → p.hi + q.lo + 0 ≡ r.hi + 2 ^ 64 * c → val r ≡ val a *ℤ pos k
unfolding val unsigned
times-law a p q r k c wa wq wr hk u e f d g =
    times_words (2 ^ 64) a.lo a.hi (a.hi / 2 ^ 63) k r.lo p.hi q.lo q.hi r.hi (r.hi / 2 ^ 63) c (omega (arith, d, e)) f (omega arith)
    (carry a.lo a.hi (a.hi / 2 ^ 63) k p.lo p.hi q.lo q.hi r.hi c wa.low wa.high hk wr.high wq.low (side (2 ^ 22) a wa.low wa.high u) e f (omega arith))

-- a product may be added to
pub times-within : {z : ℤ} (x : ℤ) (k : ℕ) → z ≡ x *ℤ pos k → nat_abs x < 2 ^ 86 → k < 2 ^ 32 → nat_abs z < 2 ^ 118
times-within x k e h hk = rw (e, nat_abs-times x k) (omega (arith, mul-le-mul {n₁ = nat_abs x} {m₁ = k} {n₂ = 2 ^ 86 - 1} {m₂ = 2 ^ 32 - 1} (omega arith) (omega arith)))

pub weigh-law : {r z m : ℤ} (w : ℤ) (s v : ℕ) → z ≡ w *ℤ pos s → m ≡ pos v → r ≡ z +ℤ m → r ≡ weigh_of w (pos s) (pos v)
weigh-law w s v e f g = g ∙ (λ i. e i +ℤ f i) ∙ ap (λ (x : ℤ). x +ℤ pos v) (*ℤ_comm w (pos s))
