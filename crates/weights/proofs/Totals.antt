-- One turn of the loop that adds numbers, and what the words of W and of a cost say.
use mathlib.Core.Path.{◌≡◌, refl}
use mathlib.Core.List.{List}
use Prim.Native.Nat.{ℕ, ◌+◌, ◌*◌, ◌/◌, ◌%◌, ◌^◌, ◌≤◌, ◌<◌}
use native.Mathlib.Omega.{arith}
use native.Mathlib.Numerals.{add-one}
use lib.IntN.{pos, nat_abs}
use lib.ListN.{length, get_or, drop, drop_of_length-le}
use lib.Seq.{drop-cons}
use Rattle.spec.specs.Bytes.{sum}
use Rattle.wide.specs.declared.Wide.{Wide}
use Rattle.wide.specs.Value.{val, unsigned, weight_of, weigh_of}
use Rattle.wide.specs.Bounds.{within-pos, weigh-pos, weight-lt}
use Rattle.wide.specs.Sign.{words-of, val-unsigned}
use Rattle.weights.specs.Words.{words_of}

-- ---- the sum of a list
pub sum-start : (s : List ℕ) → 0 + sum (drop 0 s) ≡ sum s
sum-start s = omega arith

pub sum-next : (s : List ℕ) (i t : ℕ) → i < length s → t + sum (drop i s) ≡ sum s → t + get_or s i 0 + sum (drop (i + 1) s) ≡ sum s
unfolding sum
sum-next s i t h e = let q : sum (drop i s) ≡ get_or s i 0 + sum (drop (i + 1) s) = rw (add-one, drop-cons s i 0) refl in omega arith

pub sum-end : (s : List ℕ) (i t : ℕ) → length s ≤ i → t + sum (drop i s) ≡ sum s → t ≡ sum s
unfolding sum
sum-end s i t h e = let q : sum (drop i s) ≡ 0 = rw (drop_of_length-le s h) refl in omega arith

-- ---- words
pub weight_is : (f v : ℕ) (w : Wide) → f < 2 ^ 39 → v < 2 ^ 32 → w.lo < 2 ^ 64 → w.hi < 2 ^ 64 → val w ≡ pos (weight_of f v) → (unsigned w ≡ f * v + 1) × (unsigned w < 2 ^ 71)
unfolding unsigned
weight_is f v w hf hv a b e =
    let q = weight-lt f v hf hv in
    let (x, y) = words-of w (weight_of f v) a b e in
    let s : w.lo + 2 ^ 64 * w.hi ≡ f * v + 1 = rw (x, y) (both (f * v + 1)) in
    (s, rw s q)
  where
    both : (n : ℕ) → n % 2 ^ 64 + 2 ^ 64 * (n / 2 ^ 64) ≡ n
    both n = omega arith

pub w-within : (w : Wide) → unsigned w < 2 ^ 71 → nat_abs (val w) < 2 ^ 86
w-within w h = within-pos 86 (val-unsigned w (omega arith)) (omega arith)

pub weighed : (size mass : ℕ) (w d : Wide) → unsigned w < 2 ^ 71 → d.lo < 2 ^ 64 → d.hi < 2 ^ 64 → val d ≡ weigh_of (val w) (pos size) (pos mass) → d ≡ words_of (size * unsigned w + mass)
weighed size mass w d hw a b e =
    let (x, y) = words-of d (size * unsigned w + mass) a b (weigh-pos size mass e (val-unsigned w (big hw))) in
    λ i. record { lo = x i; hi = y i }
  where
    big : {n : ℕ} → n < 2 ^ 71 → n < 2 ^ 118
    big h = omega arith
