-- A number in decimal, digit by digit from its end; a number of 64 bits has at most 20 digits.
use Rattle.std.specs.Prelude.{◌≡◌, Bool, true, false, List, [], ◌∷◌, ◌++◌, ℕ, zero, suc, ◌+◌, ◌*◌, ◌/◌, ◌%◌, ◌^◌, ◌≤◌, ◌<◌, length}
use Rattle.std.proofs.Common.{sym, ap, ◌∙◌, append_assoc, not-suc-le-zero, arith, length-append, lt-ltb, le-ltb}
use Rattle.std.proofs.Math.Decide.{dec_lt}
use Rattle.spec.specs.Bytes.{digits, decimal}

digits-one : (f n : ℕ) (l : List ℕ) → n < 10 → digits (suc f) n l ≡ (48 + n) ∷ l
unfolding digits
digits-one f n l h = ap (λ (b : Bool). elim b [ true ↦ (48 + n) ∷ l | false ↦ digits f (n / 10) ((48 + n % 10) ∷ l) ]) (lt-ltb n 10 h)

digits_step : (f n : ℕ) (l : List ℕ) → 10 ≤ n → digits (suc f) n l ≡ digits f (n / 10) ((48 + n % 10) ∷ l)
unfolding digits
digits_step f n l h = ap (λ (b : Bool). elim b [ true ↦ (48 + n) ∷ l | false ↦ digits f (n / 10) ((48 + n % 10) ∷ l) ]) (le-ltb n 10 h)

-- the digits stand before l
digits-before : (f n : ℕ) (l : List ℕ) → n < f → digits f n l ≡ digits f n [] ++ l
digits-before zero n l h = absurd (not-suc-le-zero h)
digits-before (suc f) n l h = go (dec_lt n 10) (λ m q. digits-before f (n / 10) m q)
  where
    go : Dec (n < 10) → ((m : List ℕ) → n / 10 < f → digits f (n / 10) m ≡ digits f (n / 10) [] ++ m) → digits (suc f) n l ≡ digits (suc f) n [] ++ l
    go (yes q) ih = digits-one f n l q ∙ ap (λ (z : List ℕ). z ++ l) (sym (digits-one f n [] q))
    go (no q) ih =
        let b : 10 ≤ n = omega arith in
        let d = 48 + n % 10 in
        digits_step f n l b ∙ ih (d ∷ l) (omega arith) ∙ sym (append_assoc (digits f (n / 10) []) (d ∷ []) l) ∙ ap (λ (z : List ℕ). z ++ l) (sym (digits_step f n [] b ∙ ih (d ∷ []) (omega arith)))

-- fuel above the number is enough
digits-fuel : (f g n : ℕ) (l : List ℕ) → n < f → n < g → digits f n l ≡ digits g n l
digits-fuel zero g n l h k = absurd (not-suc-le-zero h)
digits-fuel (suc f) zero n l h k = absurd (not-suc-le-zero k)
digits-fuel (suc f) (suc g) n l h k = go (dec_lt n 10) (λ q r. digits-fuel f g (n / 10) ((48 + n % 10) ∷ l) q r)
  where
    go : Dec (n < 10) → (n / 10 < f → n / 10 < g → digits f (n / 10) ((48 + n % 10) ∷ l) ≡ digits g (n / 10) ((48 + n % 10) ∷ l)) → digits (suc f) n l ≡ digits (suc g) n l
    go (yes q) ih = digits-one f n l q ∙ sym (digits-one g n l q)
    go (no q) ih = digits_step f n l (omega arith) ∙ ih (omega arith) (omega arith) ∙ sym (digits_step g n l (omega arith))

pub decimal-one : (n : ℕ) → n < 10 → decimal n ≡ (48 + n) ∷ []
decimal-one n h = digits-one n n [] h

pub decimal-more : (n : ℕ) → 10 ≤ n → decimal n ≡ decimal (n / 10) ++ ((48 + n % 10) ∷ [])
decimal-more n h = digits_step n n [] h ∙ digits-fuel n (suc (n / 10)) (n / 10) ((48 + n % 10) ∷ []) (omega arith) (omega arith) ∙ digits-before (suc (n / 10)) (n / 10) ((48 + n % 10) ∷ []) (omega arith)

tens : ℕ → ℕ
tens zero = 1
tens (suc k) = 10 * tens k

short : (k n : ℕ) → n < tens (suc k) → length (decimal n) ≤ suc k
unfolding tens
short zero n h = rw (decimal-one n (omega arith)) (omega arith)
short (suc k) n h = go (dec_lt n 10) (short k (n / 10))
  where
    go : Dec (n < 10) → (n / 10 < tens (suc k) → length (decimal (n / 10)) ≤ suc k) → length (decimal n) ≤ suc (suc k)
    go (yes q) ih = rw (decimal-one n q) (omega arith)
    go (no q) ih = rw (decimal-more n (omega arith)) (omega (arith, length-append (decimal (n / 10)) ((48 + n % 10) ∷ []), ih (omega arith)))

pub decimal-short : (n : ℕ) → n < 2 ^ 64 → length (decimal n) ≤ 20
unfolding tens
decimal-short n h = short 19 n (omega arith)

pub decimal-length-one : (n : ℕ) → n < 10 → length (decimal n) ≡ 1
decimal-length-one n h = ap length (decimal-one n h)

pub decimal-length-more : (n : ℕ) → 10 ≤ n → length (decimal n) ≡ length (decimal (n / 10)) + 1
decimal-length-more n h = ap length (decimal-more n h) ∙ length-append (decimal (n / 10)) ((48 + n % 10) ∷ [])
