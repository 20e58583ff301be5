-- Whole numbers as differences of naturals: sum, negation, product and order by the naturals. Assumes nothing.
use Rattle.std.specs.Prelude.{◌≡◌, ℕ, zero, suc, ◌+◌, ◌-◌, ◌*◌, ◌<◌, ◌≤◌, ℤ, pos, negsuc, ◌+ℤ◌, ◌-ℤ◌, ◌*ℤ◌, neg_ℤ, int_lt, nat_lt, unsigned_abs, refl}
use Rattle.std.proofs.Common.{sym, ap, ◌∙◌, add_comm, add-mul, arith, lt-ltb, le-ltb}
use Rattle.std.proofs.Math.Decide.{dec_lt}
use Rattle.std.proofs.Math.IntN.{+ℤ_assoc, +ℤ_comm, neg_ℤ-+ℤ, neg_ℤ-neg_ℤ, +ℤ_invr, +ℤ_idr, +ℤ_idl}

pub +ℤ-left-comm : (a b c : ℤ) → a +ℤ (b +ℤ c) ≡ b +ℤ (a +ℤ c)
+ℤ-left-comm a b c = sym (+ℤ_assoc a b c) ∙ ap (λ (x : ℤ). x +ℤ c) (+ℤ_comm a b) ∙ +ℤ_assoc b a c

swap-in : (a b c d : ℤ) → (a +ℤ b) +ℤ (c +ℤ d) ≡ (a +ℤ c) +ℤ (b +ℤ d)
swap-in a b c d = +ℤ_assoc a b (c +ℤ d) ∙ ap (λ (x : ℤ). a +ℤ x) (+ℤ-left-comm b c d) ∙ sym (+ℤ_assoc a c (b +ℤ d))

pub diff-add : (a b c d : ℕ) → (pos a -ℤ pos b) +ℤ (pos c -ℤ pos d) ≡ pos (a + c) -ℤ pos (b + d)
diff-add a b c d = swap-in (pos a) (neg_ℤ (pos b)) (pos c) (neg_ℤ (pos d)) ∙ ap (λ (x : ℤ). pos (a + c) +ℤ x) (sym (neg_ℤ-+ℤ (pos b) (pos d)))

diff-neg : (a b : ℕ) → neg_ℤ (pos a -ℤ pos b) ≡ pos b -ℤ pos a
diff-neg a b = neg_ℤ-+ℤ (pos a) (neg_ℤ (pos b)) ∙ ap (λ (x : ℤ). neg_ℤ (pos a) +ℤ x) (neg_ℤ-neg_ℤ (pos b)) ∙ +ℤ_comm (neg_ℤ (pos a)) (pos b)

diff-more : (a b d : ℕ) → pos (a + d) -ℤ pos (b + d) ≡ pos a -ℤ pos b
diff-more a b d = sym (diff-add a b d d) ∙ ap (λ (x : ℤ). (pos a -ℤ pos b) +ℤ x) (+ℤ_invr (pos d)) ∙ +ℤ_idr (pos a -ℤ pos b)

-- two differences are equal where the cross sums are
pub diff-eq : (a b c d : ℕ) → a + d ≡ c + b → pos a -ℤ pos b ≡ pos c -ℤ pos d
diff-eq a b c d e = sym (diff-more a b d) ∙ (λ i. pos (e i) -ℤ pos (add_comm b d i)) ∙ diff-more c d b

-- a difference by its sign
pub up : (a b : ℕ) → b ≤ a → pos a -ℤ pos b ≡ pos (a - b)
up a b h = diff-eq a b (a - b) 0 (omega arith) ∙ +ℤ_idr (pos (a - b))

pub down : (a b : ℕ) → a < b → pos a -ℤ pos b ≡ negsuc (b - suc a)
down a b h = diff-eq a b 0 (suc (b - suc a)) (omega arith) ∙ +ℤ_idl (negsuc (b - suc a))

lt_by : (a b c d : ℕ) → Dec (a < b) → Dec (c < d) → Dec (a + d < c + b) → int_lt (pos a -ℤ pos b) (pos c -ℤ pos d) ≡ nat_lt (a + d) (c + b)
lt_by a b c d (yes p) (yes q) (yes r) = (λ i. int_lt (down a b p i) (down c d q i)) ∙ lt-ltb (d - suc c) (b - suc a) (omega arith) ∙ sym (lt-ltb (a + d) (c + b) (omega arith))
lt_by a b c d (yes p) (yes q) (no r) = (λ i. int_lt (down a b p i) (down c d q i)) ∙ le-ltb (d - suc c) (b - suc a) (omega arith) ∙ sym (le-ltb (a + d) (c + b) (omega arith))
lt_by a b c d (yes p) (no q) r = (λ i. int_lt (down a b p i) (up c d (omega arith) i)) ∙ sym (lt-ltb (a + d) (c + b) (omega arith))
lt_by a b c d (no p) (yes q) r = (λ i. int_lt (up a b (omega arith) i) (down c d q i)) ∙ sym (le-ltb (a + d) (c + b) (omega arith))
lt_by a b c d (no p) (no q) (yes r) = (λ i. int_lt (up a b (omega arith) i) (up c d (omega arith) i)) ∙ lt-ltb (a - b) (c - d) (omega arith) ∙ sym (lt-ltb (a + d) (c + b) (omega arith))
lt_by a b c d (no p) (no q) (no r) = (λ i. int_lt (up a b (omega arith) i) (up c d (omega arith) i)) ∙ le-ltb (a - b) (c - d) (omega arith) ∙ sym (le-ltb (a + d) (c + b) (omega arith))

-- the order of two differences is that of the cross sums
pub diff-lt : (a b c d : ℕ) → int_lt (pos a -ℤ pos b) (pos c -ℤ pos d) ≡ nat_lt (a + d) (c + b)
diff-lt a b c d = lt_by a b c d (dec_lt a b) (dec_lt c d) (dec_lt (a + d) (c + b))

back : (a b : ℕ) → b ≤ a → (a - b) + b ≡ a
back a b h = omega arith

fill : (a b : ℕ) → a < b → a + suc (b - suc a) ≡ b
fill a b h = omega arith

mul-by : (a b k : ℕ) → Dec (a < b) → (pos a -ℤ pos b) *ℤ pos k ≡ pos (a * k) -ℤ pos (b * k)
mul-by a b k (no h) =
    ap (λ (x : ℤ). x *ℤ pos k) (up a b (omega arith)) ∙ sym (+ℤ_idr (pos ((a - b) * k)))
    ∙ diff-eq ((a - b) * k) 0 (a * k) (b * k) (omega (arith, sym (add-mul (a - b) b k) ∙ ap (λ (x : ℕ). x * k) (back a b (omega arith))))
mul-by a b k (yes h) =
    ap (λ (x : ℤ). x *ℤ pos k) (down a b h)
    ∙ ap neg_ℤ (sym (+ℤ_idr (pos (suc (b - suc a) * k)))) ∙ diff-neg (suc (b - suc a) * k) 0
    ∙ diff-eq 0 (suc (b - suc a) * k) (a * k) (b * k) (omega (arith, sym (add-mul a (suc (b - suc a)) k) ∙ ap (λ (x : ℕ). x * k) (fill a b h)))

pub diff-mul : (a b k : ℕ) → (pos a -ℤ pos b) *ℤ pos k ≡ pos (a * k) -ℤ pos (b * k)
diff-mul a b k = mul-by a b k (dec_lt a b)

pub nat_abs-neg : (n : ℕ) → unsigned_abs (neg_ℤ (pos n)) ≡ n
nat_abs-neg zero = refl
nat_abs-neg (suc n) = refl

pub nat_abs-times : (z : ℤ) (k : ℕ) → unsigned_abs (z *ℤ pos k) ≡ unsigned_abs z * k
nat_abs-times (pos n) k = refl
nat_abs-times (negsuc n) k = nat_abs-neg (suc n * k)
