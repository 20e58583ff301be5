-- Sum and negation on the words alone, and what they are of natural numbers: the path costs of transport.
use Rattle.std.proofs.Math.Decide.{dec_lt, dec_le}
use Rattle.std.proofs.Math.Nat.{le_dest}
use Rattle.std.proofs.Common.{mul-le-mul_left, sym, ap, ◌∙◌, arith}
use Rattle.std.specs.Prelude.{◌≡◌, ℕ, suc, ◌+◌, ◌-◌, ◌*◌, ◌/◌, ◌%◌, ◌^◌, ◌<◌, ◌≤◌, pos, int_lt, nat_lt, refl}
use Rattle.wide.specs.declared.Wide.{Wide}
use Rattle.wide.specs.Value.{val}
use Rattle.wide.specs.Sign.{val-low}

-- "the low words are added with a sum that wraps, and the carry is worked out"
abbrev pub carry : Wide → Wide → ℕ
carry a b = (a.lo + b.lo) / 2 ^ 64

unfoldable pub add_words : Wide → Wide → Wide
add_words a b = record { lo = (a.lo + b.lo) % 2 ^ 64; hi = (a.hi + b.hi + carry a b) % 2 ^ 64 }

-- the borrow is 1 unless the low word is 0
abbrev pub borrow : Wide → ℕ
borrow a = (a.lo + (2 ^ 64 - 1)) / 2 ^ 64

unfoldable pub neg_words : Wide → Wide
neg_words a = record { lo = (2 ^ 64 - a.lo) % 2 ^ 64; hi = (2 ^ 64 + 2 ^ 64 - a.hi - borrow a) % 2 ^ 64 }

-- a natural number of less than 2^126
pub record Natural (w : Wide) (n : ℕ) : Type 0 where
  pub low : w.lo < 2 ^ 64
  pub high : w.hi < 2 ^ 62
  pub is : w.lo + 2 ^ 64 * w.hi ≡ n

pub split : (s : ℕ) → s % 2 ^ 64 + 2 ^ 64 * (s / 2 ^ 64) ≡ s
split s = omega arith

low-lt : (s : ℕ) → s % 2 ^ 64 < 2 ^ 64
low-lt s = omega arith

less-high : (l h n m : ℕ) → l + 2 ^ 64 * h ≡ n → n < 2 ^ 64 * m → h < m
less-high l h n m e b = omega arith

-- a high word below 2^54 does not wrap, nor where 2^64 was added to it
keeps : (t : ℕ) → t < 2 ^ 54 → t % 2 ^ 64 ≡ t
keeps t h = omega arith

once_more : (t r : ℕ) → t ≡ 2 ^ 64 + r → r < 2 ^ 54 → t % 2 ^ 64 ≡ r
once_more t r e h = omega arith

small-high : (h : ℕ) → h < 2 ^ 54 → h < 2 ^ 62
small-high h b = omega arith

-- at any base B: l is the low word of la + lb, c the carry
sum_of : (B la ha lb hb l c m n : ℕ) → la + B * ha ≡ m → lb + B * hb ≡ n → l + B * c ≡ la + lb → l + B * (ha + hb + c) ≡ m + n
sum_of B la ha lb hb l c m n p q r = omega arith

made : (l t r n : ℕ) → l < 2 ^ 64 → l + 2 ^ 64 * r ≡ n → n < 2 ^ 118 → t % 2 ^ 64 ≡ r → Natural (record { lo = l; hi = t % 2 ^ 64 }) n
made l t r n h e b q = let f = less-high l r n (2 ^ 54) e b in rw q (record { low = h; high = small-high r f; is = e })

pub add-natural : {a b : Wide} {m n : ℕ} → Natural a m → Natural b n → m + n < 2 ^ 118 → Natural (add_words a b) (m + n)
unfolding add_words
add-natural {a} {b} {m} {n} A B h =
    let e = sum_of (2 ^ 64) a.lo a.hi b.lo b.hi ((a.lo + b.lo) % 2 ^ 64) (carry a b) m n A.is B.is (split (a.lo + b.lo)) in
    made ((a.lo + b.lo) % 2 ^ 64) (a.hi + b.hi + carry a b) (a.hi + b.hi + carry a b) (m + n) (low-lt (a.lo + b.lo)) e h
    (keeps (a.hi + b.hi + carry a b) (less-high ((a.lo + b.lo) % 2 ^ 64) (a.hi + b.hi + carry a b) (m + n) (2 ^ 54) e h))

-- the words of the negation complement those of a number above 0, with the borrow
neg_low : (l : ℕ) → l < 2 ^ 64 → (2 ^ 64 - l) % 2 ^ 64 + l ≡ 2 ^ 64 * ((l + (2 ^ 64 - 1)) / 2 ^ 64)
neg_low l h = omega arith

borrow-le : (l : ℕ) → l < 2 ^ 64 → (l + (2 ^ 64 - 1)) / 2 ^ 64 ≤ 1
borrow-le l h = omega arith

neg-high : (h k : ℕ) → h < 2 ^ 62 → k ≤ 1 → 0 < h + k → (2 ^ 64 + 2 ^ 64 - h - k) % 2 ^ 64 + h + k ≡ 2 ^ 64
neg-high h k b c q = omega arith

some-borrow : (l h : ℕ) → l < 2 ^ 64 → 0 < l + 2 ^ 64 * h → 0 < h + (l + (2 ^ 64 - 1)) / 2 ^ 64
some-borrow l h b q = omega arith

no_borrow : (l h : ℕ) → l + 2 ^ 64 * h ≡ 0 → (l ≡ 0) × (h ≡ 0)
no_borrow l h e = (omega arith, omega arith)

-- at any base B: l and t are the words of m + (B × B − n), with n at most m
opposite : (B nl nh bl bh k n : ℕ) → bl + B * bh ≡ n → nl + bl ≡ B * k → nh + bh + k ≡ B → nl + B * nh + n ≡ B * B
opposite B nl nh bl bh k n p q r = omega (arith, ap (λ (x : ℕ). B * x) r)

back_to : (B l t m n : ℕ) → l < B → l + B * t + n ≡ m + B * B → n ≤ m → (r : ℕ) × (t ≡ B + r) × (l + B * r ≡ m - n)
back_to B l t m n h e g = go (dec_le B t)
  where
    go : Dec (B ≤ t) → (r : ℕ) × (t ≡ B + r) × (l + B * r ≡ m - n)
    go (yes q) = let (r, f) = le_dest q in (r, sym f, omega (arith, ap (λ (x : ℕ). B * x) f))
    go (no q) = absurd (omega (arith, mul-le-mul_left {m = suc t} {n = B} B (omega arith)))

gathered : (B l t u m n : ℕ) → l + B * t ≡ m + u → u + n ≡ B * B → l + B * t + n ≡ m + B * B
gathered B l t u m n p q = omega arith

pub sub-natural : {a b : Wide} {m n : ℕ} → Natural a m → Natural b n → n ≤ m → m < 2 ^ 118 → Natural (add_words a (neg_words b)) (m - n)
unfolding add_words neg_words
sub-natural {a} {b} {m} {n} A B le h = go (dec_lt 0 n)
  where
    nl : ℕ
    nl = (2 ^ 64 - b.lo) % 2 ^ 64

    nh : ℕ
    nh = (2 ^ 64 + 2 ^ 64 - b.hi - borrow b) % 2 ^ 64

    l : ℕ
    l = (a.lo + nl) % 2 ^ 64

    t : ℕ
    t = a.hi + nh + (a.lo + nl) / 2 ^ 64

    sum : l + 2 ^ 64 * t ≡ m + (nl + 2 ^ 64 * nh)
    sum = sum_of (2 ^ 64) a.lo a.hi nl nh l ((a.lo + nl) / 2 ^ 64) m (nl + 2 ^ 64 * nh) A.is refl (split (a.lo + nl))

    less : (m n : ℕ) → m < 2 ^ 118 → m - n < 2 ^ 118
    less m n h = omega arith

    go : Dec (0 < n) → Natural (add_words a (neg_words b)) (m - n)
    go (yes q) =
        let pos : 0 < b.lo + 2 ^ 64 * b.hi = rw B.is q in
        let op = opposite (2 ^ 64) nl nh b.lo b.hi (borrow b) n B.is (neg_low b.lo B.low) (neg-high b.hi (borrow b) B.high (borrow-le b.lo B.low) (some-borrow b.lo b.hi B.low pos)) in
        let (r, e, f) = back_to (2 ^ 64) l t m n (low-lt (a.lo + nl)) (gathered (2 ^ 64) l t (nl + 2 ^ 64 * nh) m n sum op) le in
        made l t r (m - n) (low-lt (a.lo + nl)) f (less m n h) (once_more t r e (less-high l r (m - n) (2 ^ 54) f (less m n h)))
    go (no q) =
        let zero-n : n ≡ 0 = omega (arith, q) in
        let (el, eh) = no_borrow b.lo b.hi (B.is ∙ zero-n) in
        let same : m - n ≡ m + 0 = omega (arith, zero-n) in
        let Z : Natural (record { lo = 0; hi = 0 }) 0 = record { low = omega arith; high = omega arith; is = refl } in
        rw (same, el, eh) (add-natural {a = a} {b = record { lo = 0; hi = 0 }} A Z (omega arith))

-- the order of natural numbers
pub less-natural : {a b : Wide} {m n : ℕ} → Natural a m → Natural b n → int_lt (val a) (val b) ≡ nat_lt m n
less-natural {a} {b} {m} {n} A B = λ i. int_lt (at A i) (at B i)
  where
    half : (h : ℕ) → h < 2 ^ 62 → h < 2 ^ 63
    half h b = omega arith

    at : {w : Wide} {k : ℕ} → Natural w k → val w ≡ pos k
    at {w} {k} N = val-low w (half w.hi N.high) ∙ ap pos N.is

-- ---- the laws that the code cites: words and carries by their equations
digits : (s w k : ℕ) → s ≡ w + 2 ^ 64 * k → w < 2 ^ 64 → (w ≡ s % 2 ^ 64) × (k ≡ s / 2 ^ 64)
digits s w k e h = (omega arith, omega arith)

wide : {l l' h h' : ℕ} → l ≡ l' → h ≡ h' → ◌≡◌ {A = Wide} (record { lo = l; hi = h }) (record { lo = l'; hi = h' })
wide p q = λ i. record { lo = p i; hi = q i }

pub add-by-words : (a b : Wide) (l k h c : ℕ) → a.lo + b.lo + 0 ≡ l + 2 ^ 64 * k → a.hi + b.hi + k ≡ h + 2 ^ 64 * c → l < 2 ^ 64 → h < 2 ^ 64
    → ◌≡◌ {A = Wide} (record { lo = l; hi = h }) (add_words a b)
unfolding add_words
add-by-words a b l k h c e f p q =
    let (x, y) = digits (a.lo + b.lo) l k (omega (arith, e)) p in
    let (u, v) = digits (a.hi + b.hi + k) h c f q in
    wide x (u ∙ ap (λ (z : ℕ). (a.hi + b.hi + z) % 2 ^ 64) y)

complement : (x k w c : ℕ) → 0 + 2 ^ 64 * c ≡ w + x + k → w < 2 ^ 64 → x < 2 ^ 64 → k < 2 → c < 2 → w ≡ (2 ^ 64 + 2 ^ 64 - x - k) % 2 ^ 64
complement x k w c e p q r s = omega arith

low-complement : (x w c : ℕ) → 0 + 2 ^ 64 * c ≡ w + x + 0 → w < 2 ^ 64 → x < 2 ^ 64 → (w ≡ (2 ^ 64 - x) % 2 ^ 64) × (c ≡ (x + (2 ^ 64 - 1)) / 2 ^ 64)
low-complement x w c e p q = (omega arith, omega arith)

pub neg-by-words : (a : Wide) (l k h c : ℕ) → 0 + 2 ^ 64 * k ≡ l + a.lo + 0 → 0 + 2 ^ 64 * c ≡ h + a.hi + k → l < 2 ^ 64 → h < 2 ^ 64 → a.lo < 2 ^ 64 → a.hi < 2 ^ 64 → k < 2 → c < 2
    → ◌≡◌ {A = Wide} (record { lo = l; hi = h }) (neg_words a)
unfolding neg_words
neg-by-words a l k h c e f p q r s t u =
    let (x, y) = low-complement a.lo l k e p r in
    wide x (complement a.hi k h c f q s t u ∙ ap (λ (z : ℕ). (2 ^ 64 + 2 ^ 64 - a.hi - z) % 2 ^ 64) y)
