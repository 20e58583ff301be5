-- "A cost becomes a signed number of two 64-bit words": what two words stand for, and how a cost weighs.
use Rattle.std.specs.Prelude.{◌≡◌, ℕ, ◌+◌, ◌*◌, ◌/◌, ◌^◌, ◌<◌, ℤ, pos, ◌+ℤ◌, ◌-ℤ◌, ◌*ℤ◌, neg_ℤ, unsigned_abs, refl}
use Rattle.wide.specs.declared.Wide.{Wide}

-- both words as one natural number
unfoldable pub unsigned : Wide → ℕ
unsigned w = w.lo + 2 ^ 64 * w.hi

-- two's complement: 2^128 less where the top bit is set
unfoldable pub val : Wide → ℤ
val w = pos (w.lo + 2 ^ 64 * w.hi) -ℤ pos (2 ^ 64 * (2 ^ 64 * (w.hi / 2 ^ 63)))

-- less than 2^k away from zero, on either side
abbrev pub Within : ℕ → Wide → Type 0
Within k w = unsigned_abs (val w) < 2 ^ k

-- "F is the total supply, V the largest mass in an allowed cell, W = F × V + 1"
abbrev pub weight_of : ℕ → ℕ → ℕ
weight_of f v = f * v + 1

-- "a cell costs size × W + mass"; a path too, where sizes and masses may have been taken off again
abbrev pub weigh_of : ℤ → ℤ → ℤ → ℤ
weigh_of w size mass = size *ℤ w +ℤ mass

-- P: F = 3, V = 1: cost (0,3) weighs 3, cost (1,−2) weighs 2
pub weighs : (weigh_of (pos (weight_of 3 1)) (pos 0) (pos 3) ≡ pos 3) × (weigh_of (pos (weight_of 3 1)) (pos 1) (neg_ℤ (pos 2)) ≡ pos 2)
weighs = (refl, refl)
