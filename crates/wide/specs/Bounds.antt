-- What callers need: numbers that are known to be ± n meet each `requires`, results are naturals again, and path costs stay small.
use Rattle.std.specs.Prelude.{◌≡◌, ℕ, ◌+◌, ◌-◌, ◌*◌, ◌^◌, ◌<◌, ℤ, pos, ◌+ℤ◌, ◌*ℤ◌, unsigned_abs}
use Rattle.std.proofs.Common.{ap, ◌∙◌, mul-le-mul, arith}
use Rattle.wide.specs.Value.{weight_of, weigh_of}

-- the `requires` of a number that is n
pub within-pos : (k : ℕ) {z : ℤ} {n : ℕ} → z ≡ pos n → n < 2 ^ k → unsigned_abs z < 2 ^ k
within-pos k e h = rw e h

-- sum, product and weight of naturals
pub add-pos : {z x y : ℤ} {m n : ℕ} → z ≡ x +ℤ y → x ≡ pos m → y ≡ pos n → z ≡ pos (m + n)
add-pos e f g = e ∙ (λ i. f i +ℤ g i)

pub times-pos : {z x : ℤ} {n : ℕ} (k : ℕ) → z ≡ x *ℤ pos k → x ≡ pos n → z ≡ pos (n * k)
times-pos k e f = e ∙ ap (λ (y : ℤ). y *ℤ pos k) f

pub weigh-pos : {z w : ℤ} {n : ℕ} (s v : ℕ) → z ≡ weigh_of w (pos s) (pos v) → w ≡ pos n → z ≡ pos (s * n + v)
weigh-pos s v e f = e ∙ ap (λ (y : ℤ). weigh_of y (pos s) (pos v)) f

-- the magnitudes: 65 supplies below 2^32 add up to F < 2^39, so W < 2^71 and a cell costs less than 2^103
pub weight-lt : (f v : ℕ) → f < 2 ^ 39 → v < 2 ^ 32 → weight_of f v < 2 ^ 71
weight-lt f v hf hv = omega (arith, mul-le-mul {n₁ = f} {m₁ = v} {n₂ = 2 ^ 39 - 1} {m₂ = 2 ^ 32 - 1} (omega arith) (omega arith))

pub cost-lt : (w s v : ℕ) → w < 2 ^ 71 → s < 2 ^ 32 → v < 2 ^ 32 → s * w + v < 2 ^ 103
cost-lt w s v hw hs hv = omega (arith, mul-le-mul {n₁ = s} {m₁ = w} {n₂ = 2 ^ 32 - 1} {m₂ = 2 ^ 71 - 1} (omega arith) (omega arith))
