-- The order of two's complement values by their words. Assumes nothing.
use Rattle.std.proofs.Common.{◌≡◌, ℕ, ◌+◌, ◌*◌, ◌/◌, ◌%◌, ◌^◌, ◌<◌, ◌≤◌, true, false, ltb, sym, ap, ◌∙◌, le_trans, le_of_lt, mul-le-mul_left, mul-suc, mul-add, arith, le-ltb, lt-ltb}
use native.Mathlib.Decide.{dec_lt}
use lib.Signed.{lt_z}
use Rattle.wide.specs.declared.Wide.{Wide}
use Rattle.wide.specs.Value.{val}
use Rattle.wide.specs.Diff.{diff-lt}
use Rattle.wide.proofs.Words.{Words}

-- ---- at any base B
more : (B u v : ℕ) → u < v → B * u + B ≤ B * v
more B u v h = le_trans (omega (arith, mul-suc B u)) (mul-le-mul_left B h)

words-lt : (B la ha tb lb hb ta : ℕ) → la < B → ha + B * tb < hb + B * ta → la + B * ha + B * (B * tb) < lb + B * hb + B * (B * ta)
words-lt B la ha tb lb hb ta l h = omega (arith, mul-add B ha (B * tb), mul-add B hb (B * ta), more B (ha + B * tb) (hb + B * ta) h)

words_same : (B la ha tb lb hb ta : ℕ) → ha + B * tb ≡ hb + B * ta → la < lb → la + B * ha + B * (B * tb) < lb + B * hb + B * (B * ta)
words_same B la ha tb lb hb ta e h = omega (arith, simp mul-add at (ap (λ (x : ℕ). B * x) e))

words-same-le : (B la ha tb lb hb ta : ℕ) → ha + B * tb ≡ hb + B * ta → lb ≤ la → lb + B * hb + B * (B * ta) ≤ la + B * ha + B * (B * tb)
words-same-le B la ha tb lb hb ta e h = omega (arith, simp mul-add at (ap (λ (x : ℕ). B * x) e))

words-order : (B la ha tb lb hb ta : ℕ) → ha + B * tb ≡ hb + B * ta → Dec (la < lb) → ltb la lb ≡ ltb (la + B * ha + B * (B * tb)) (lb + B * hb + B * (B * ta))
words-order B la ha tb lb hb ta e (yes h) =
    lt-ltb la lb h ∙ sym (lt-ltb _ _ (words_same B la ha tb lb hb ta e h))
words-order B la ha tb lb hb ta e (no h) =
    le-ltb la lb (omega arith) ∙ sym (le-ltb _ _ (words-same-le B la ha tb lb hb ta e (omega arith)))

-- ---- x is the high word h with its top bit turned
turned : (h x : ℕ) → h < 2 ^ 64 → x ≡ (h + 2 ^ 63) % 2 ^ 64 → x + 2 ^ 64 * (h / 2 ^ 63) ≡ h + 2 ^ 63
turned h x l e = omega arith

cross-lt : (a b x y ta tb : ℕ) → x + 2 ^ 64 * ta ≡ a + 2 ^ 63 → y + 2 ^ 64 * tb ≡ b + 2 ^ 63 → x < y → a + 2 ^ 64 * tb < b + 2 ^ 64 * ta
cross-lt a b x y ta tb e f h = omega arith

cross-same : (a b x y ta tb : ℕ) → x + 2 ^ 64 * ta ≡ a + 2 ^ 63 → y + 2 ^ 64 * tb ≡ b + 2 ^ 63 → x ≤ y → y ≤ x → a + 2 ^ 64 * tb ≡ b + 2 ^ 64 * ta
cross-same a b x y ta tb e f h g = omega arith

val-lt : (a b : Wide) → lt_z (val a) (val b) ≡ ltb (a.lo + 2 ^ 64 * a.hi + 2 ^ 64 * (2 ^ 64 * (b.hi / 2 ^ 63))) (b.lo + 2 ^ 64 * b.hi + 2 ^ 64 * (2 ^ 64 * (a.hi / 2 ^ 63)))
unfolding val
val-lt a b = diff-lt (a.lo + 2 ^ 64 * a.hi) (2 ^ 64 * (2 ^ 64 * (a.hi / 2 ^ 63))) (b.lo + 2 ^ 64 * b.hi) (2 ^ 64 * (2 ^ 64 * (b.hi / 2 ^ 63)))

-- ---- the laws that the code cites
module _ (a b : Wide) (x y : ℕ) (p : Words a) (q : Words b) (ex : x ≡ (a.hi + 2 ^ 63) % 2 ^ 64) (ey : y ≡ (b.hi + 2 ^ 63) % 2 ^ 64) where
  pub less-high : x < y → true ≡ lt_z (val a) (val b)
  less-high h =
      sym (val-lt a b ∙ lt-ltb _ _ (words-lt (2 ^ 64) a.lo a.hi (b.hi / 2 ^ 63) b.lo b.hi (a.hi / 2 ^ 63) p.low (cross-lt a.hi b.hi x y (a.hi / 2 ^ 63) (b.hi / 2 ^ 63) (turned a.hi x p.high ex) (turned b.hi y q.high ey) h)))

  pub more-high : y < x → false ≡ lt_z (val a) (val b)
  more-high h =
      sym (val-lt a b ∙ le-ltb _ _ (le_of_lt (words-lt (2 ^ 64) b.lo b.hi (a.hi / 2 ^ 63) a.lo a.hi (b.hi / 2 ^ 63) q.low (cross-lt b.hi a.hi y x (b.hi / 2 ^ 63) (a.hi / 2 ^ 63) (turned b.hi y q.high ey) (turned a.hi x p.high ex) h))))

  pub same-high : x ≤ y → y ≤ x → ltb a.lo b.lo ≡ lt_z (val a) (val b)
  same-high h g =
      words-order (2 ^ 64) a.lo a.hi (b.hi / 2 ^ 63) b.lo b.hi (a.hi / 2 ^ 63) (cross-same a.hi b.hi x y (a.hi / 2 ^ 63) (b.hi / 2 ^ 63) (turned a.hi x p.high ex) (turned b.hi y q.high ey) h g) (dec_lt a.lo b.lo)
      ∙ sym (val-lt a b)
