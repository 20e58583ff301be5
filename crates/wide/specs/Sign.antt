-- The value of two words by the top bit, and the words of a natural number by its value. Assumes nothing.
use Rattle.std.specs.Prelude.{◌≡◌, ℕ, zero, suc, ◌+◌, ◌-◌, ◌*◌, ◌/◌, ◌%◌, ◌^◌, ◌<◌, ◌≤◌, pos, ◌-ℤ◌, neg_ℤ, ◌≢◌, unsigned_abs}
use Rattle.std.proofs.Common.{sym, ap, ◌∙◌, mul-add, arith}
use Rattle.std.proofs.Math.Decide.{dec_lt}
use Rattle.std.proofs.Math.IntN.{+ℤ_idr, +ℤ_idl, pos-ne-negsuc}
use Rattle.wide.specs.declared.Wide.{Wide}
use Rattle.wide.specs.Value.{val, unsigned}
use Rattle.wide.specs.Diff.{diff-eq}

-- two words whose top bit is clear
clear-top : (h : ℕ) → h < 2 ^ 63 → h / 2 ^ 63 ≡ 0
clear-top h l = omega arith

pub val-low : (w : Wide) → w.hi < 2 ^ 63 → val w ≡ pos (w.lo + 2 ^ 64 * w.hi)
unfolding val
val-low w h =
    ap (λ (t : ℕ). pos (w.lo + 2 ^ 64 * w.hi) -ℤ pos (2 ^ 64 * (2 ^ 64 * t))) (clear-top w.hi h) ∙ +ℤ_idr (pos (w.lo + 2 ^ 64 * w.hi))

pub val_of : (x : ℕ) → val (record { lo = x; hi = 0 }) ≡ pos x
val_of x = val-low (record { lo = x; hi = 0 }) (omega arith) ∙ ap pos (omega arith)

pub val-unsigned : (w : Wide) → unsigned w < 2 ^ 118 → val w ≡ pos (unsigned w)
unfolding unsigned
val-unsigned w h = val-low w (omega arith)

-- below zero: the words of −(B·d − l), where d is B − h
under : (B l h d : ℕ) → h + d ≡ B → l ≤ B * d → pos (l + B * h) -ℤ pos (B * (B * 1)) ≡ neg_ℤ (pos (B * d - l))
under B l h d e p =
    diff-eq (l + B * h) (B * (B * 1)) 0 (B * d - l) (omega (arith, simp mul-add at (ap (λ (x : ℕ). B * x) e)))
    ∙ +ℤ_idl (neg_ℤ (pos (B * d - l)))

pub set-top : (h : ℕ) → h < 2 ^ 64 → 2 ^ 63 ≤ h → h / 2 ^ 63 ≡ 1
set-top h l g = omega arith

room : (l d : ℕ) → l < 2 ^ 64 → 1 ≤ d → l ≤ 2 ^ 64 * d
room l d h g = omega arith

pub val-under : (w : Wide) (d : ℕ) → w.lo < 2 ^ 64 → w.hi < 2 ^ 64 → 2 ^ 63 ≤ w.hi → w.hi + d ≡ 2 ^ 64 → val w ≡ neg_ℤ (pos (2 ^ 64 * d - w.lo))
unfolding val
val-under w d l h g e =
    ap (λ (t : ℕ). pos (w.lo + 2 ^ 64 * w.hi) -ℤ pos (2 ^ 64 * (2 ^ 64 * t))) (set-top w.hi h g)
    ∙ under (2 ^ 64) w.lo w.hi d e (room w.lo d l (omega arith))

-- the words of a natural number are known from its value
no-natural : (m n : ℕ) → 1 ≤ m → pos n ≢ neg_ℤ (pos m)
no-natural zero n h e = absurd (omega arith)
no-natural (suc m) n h e = pos-ne-negsuc n m e

digits : (l h n : ℕ) → l < 2 ^ 64 → n ≡ l + 2 ^ 64 * h → (l ≡ n % 2 ^ 64) × (h ≡ n / 2 ^ 64)
digits l h n p e = (omega arith, omega arith)

gap : (l d : ℕ) → l < 2 ^ 64 → 1 ≤ d → 1 ≤ 2 ^ 64 * d - l
gap l d h g = omega arith

words-by : (w : Wide) (n : ℕ) → w.lo < 2 ^ 64 → w.hi < 2 ^ 64 → val w ≡ pos n → Dec (w.hi < 2 ^ 63) → (w.lo ≡ n % 2 ^ 64) × (w.hi ≡ n / 2 ^ 64)
words-by w n l h e (yes x) = digits w.lo w.hi n l (ap unsigned_abs (sym e ∙ val-low w x))
words-by w n l h e (no x) =
    let d = val-under w (2 ^ 64 - w.hi) l h (omega arith) (omega arith) in
    absurd (no-natural (2 ^ 64 * (2 ^ 64 - w.hi) - w.lo) n (gap w.lo (2 ^ 64 - w.hi) l (omega arith)) (sym e ∙ d))

pub words-of : (w : Wide) (n : ℕ) → w.lo < 2 ^ 64 → w.hi < 2 ^ 64 → val w ≡ pos n → (w.lo ≡ n % 2 ^ 64) × (w.hi ≡ n / 2 ^ 64)
words-of w n l h e = words-by w n l h e (dec_lt w.hi (2 ^ 63))
