-- Linear facts over the signed numbers by `omega`: z is the difference of its two parts, one of which is 0.
use Rattle.std.specs.Prelude.{Bool, true, false, cond, not, ◌≡◌, refl, ℕ, zero, suc, ◌+◌, ◌≤◌, ◌<◌, ◌-◌, T, ltb, ℤ, pos, negsuc, neg_ℤ, ◌+ℤ◌}
use Rattle.std.proofs.Common.{ap, arith, ltb→lt, nltb→le}
use Rattle.std.proofs.Math.IntN.{sub_ℕ}

abbrev pub pos_part : ℤ → ℕ
pos_part (pos n) = n
pos_part (negsuc n) = 0

abbrev pub neg_part : ℤ → ℕ
neg_part (pos n) = 0
neg_part (negsuc n) = suc n

-- `sub_ℕ a b` is a - b
sub_by : (c : Bool) (a b : ℕ) → (T c → a < b) → (T (not c) → b ≤ a) → pos_part (cond c (negsuc (b - suc a)) (pos (a - b))) + b ≡ a + neg_part (cond c (negsuc (b - suc a)) (pos (a - b)))
sub_by true a b f g = omega (arith, f tt)
sub_by false a b f g = omega (arith, g tt)

pub z-sub : (a b : ℕ) → pos_part (sub_ℕ a b) + b ≡ a + neg_part (sub_ℕ a b)
z-sub a b = sub_by (ltb a b) a b (ltb→lt a b) (nltb→le a b)

pub z-add : (a b : ℤ) → pos_part (a +ℤ b) + (neg_part a + neg_part b) ≡ pos_part a + pos_part b + neg_part (a +ℤ b)
z-add (pos a) (pos b) = omega arith
z-add (pos a) (negsuc b) = omega (arith, z-sub a (suc b))
z-add (negsuc a) (pos b) = omega (arith, z-sub b (suc a))
z-add (negsuc a) (negsuc b) = omega arith

pub z-neg : (a : ℤ) → (pos_part (neg_ℤ a) ≡ neg_part a) × (neg_part (neg_ℤ a) ≡ pos_part a)
z-neg (pos zero) = (refl, refl)
z-neg (pos (suc n)) = (refl, refl)
z-neg (negsuc n) = (refl, refl)

pub z-eq : (a b : ℤ) → pos_part a + neg_part b ≡ pos_part b + neg_part a → a ≡ b
z-eq (pos a) (pos b) h = ap pos (omega arith)
z-eq (pos a) (negsuc b) h = absurd (omega arith)
z-eq (negsuc a) (pos b) h = absurd (omega arith)
z-eq (negsuc a) (negsuc b) h = ap negsuc (omega arith)

-- a label and a price, where the sum is not negative
pub plus : (l k : ℕ) (c : ℤ) → k + neg_part c ≡ l + pos_part c → pos l +ℤ c ≡ pos k
plus l k c h = z-eq (pos l +ℤ c) (pos k) (omega (arith, z-add (pos l) c))
