-- The sentence on budgets, proved of any number of checks. Assumes nothing.
use Rattle.std.specs.Prelude.{◌≡◌, refl, Bool, true, false, List, [], ◌∷◌, ◌++◌, ℕ, zero, suc, ◌-◌, ◌≤◌, ◌<◌, min, ltb, replicate}
use Rattle.std.proofs.Common.{sym, ap, ◌∙◌, arith, lt-ltb, le-ltb}
use Rattle.std.proofs.Math.Decide.{dec_lt}
use Rattle.budget.specs.declared.Budget.{Budget}
use Rattle.spec.specs.Bytes.{all}
use Rattle.budget.specs.Budget.{budget_of, spend_at, spend_of, spend_many_of, checks, after}

-- with budget b, the first b checks pass and the next one is expired
pub first-pass : (b : ℕ) → checks (suc b) (budget_of b) ≡ replicate b true ++ (false ∷ [])
unfolding checks
first-pass zero = refl
first-pass (suc b) = ap (λ (l : List Bool). true ∷ l) (first-pass b)

-- n checks with budget b: the first min n b pass, and all after them are expired
abbrev answers : ℕ → ℕ → List Bool
answers p e = replicate p true ++ replicate e false

pub checks-are : (n b : ℕ) → checks n (budget_of b) ≡ replicate (min n b) true ++ replicate (n - b) false
unfolding checks
checks-are zero b = let e : min 0 b ≡ 0 = omega arith in let f : 0 - b ≡ 0 = omega arith in sym (λ i. answers (e i) (f i))
checks-are (suc n) zero =
    let e : min (suc n) 0 ≡ 0 = omega arith in
    let f : min n 0 ≡ 0 = omega arith in
    let g : suc n - 0 ≡ suc (n - 0) = omega arith in
    ap (λ (l : List Bool). false ∷ l) (checks-are n zero ∙ (λ i. answers (f i) (n - 0))) ∙ sym (λ i. answers (e i) (g i))
checks-are (suc n) (suc b) =
    let e : min (suc n) (suc b) ≡ suc (min n b) = omega arith in
    let f : suc n - suc b ≡ n - b = omega arith in
    ap (λ (l : List Bool). true ∷ l) (checks-are n b) ∙ sym (λ i. answers (e i) (f i))

-- what is left after n checks
pub after_is : (n b : ℕ) → after n (budget_of b) ≡ budget_of (b - n)
unfolding after
after_is zero b = let e : b - 0 ≡ b = omega arith in sym (ap budget_of e)
after_is (suc n) zero = let e : 0 - n ≡ 0 - suc n = omega arith in after_is n zero ∙ ap budget_of e
after_is (suc n) (suc b) = let e : b - n ≡ suc b - suc n = omega arith in after_is n b ∙ ap budget_of e

-- the check with number k, counted from 0, passes exactly where k < b
passes : (k b : ℕ) → Dec (k < b) → (spend_at (b - k)).passed ≡ ltb k b
passes k b (yes h) = let e : b - k ≡ suc (b - suc k) = omega arith in ap (λ (n : ℕ). (spend_at n).passed) e ∙ sym (lt-ltb k b h)
passes k b (no h) = let e : b - k ≡ 0 = omega arith in ap (λ (n : ℕ). (spend_at n).passed) e ∙ sym (le-ltb k b (omega arith))

pub check-passes : (k b : ℕ) → (spend_of (after k (budget_of b))).passed ≡ ltb k b
check-passes k b = ap (λ (s : Budget). (spend_of s).passed) (after_is k b) ∙ passes k b (dec_lt k b)

-- ---- n checks at once
all_pass : (n b : ℕ) → n ≤ b → all (λ x. x) (checks n (budget_of b)) ≡ true
unfolding checks all
all_pass zero b h = refl
all_pass (suc n) zero h = absurd (let z : suc n ≤ 0 = h in omega arith)
all_pass (suc n) (suc b) h = all_pass n b (omega arith)

one-expires : (n b : ℕ) → b < n → all (λ x. x) (checks n (budget_of b)) ≡ false
unfolding checks all
one-expires zero b h = absurd (let z : b < 0 = h in omega arith)
one-expires (suc n) zero h = refl
one-expires (suc n) (suc b) h = one-expires n b (omega arith)

pub many-pass : (n : ℕ) (b : Budget) → n ≤ b.left → record { budget = budget_of (b.left - n); passed = true } ≡ spend_many_of n b
many-pass n b h = (λ i. record { budget = sym (after_is n b.left) i; passed = sym (all_pass n b.left h) i })

pub many-expire : (n : ℕ) (b : Budget) → b.left < n → record { budget = budget_of 0; passed = false } ≡ spend_many_of n b
many-expire n b h =
    let e : 0 ≡ b.left - n = omega arith in
    (λ i. record { budget = (ap budget_of e ∙ sym (after_is n b.left)) i; passed = sym (one-expires n b.left h) i })

-- one of them is a check
pub many-one : (b : Budget) → spend_many_of 1 b ≡ spend_of b
unfolding checks after all
many-one b = go b.left
  where
    go : (n : ℕ) → spend_many_of 1 (budget_of n) ≡ spend_at n
    go zero = refl
    go (suc n) = refl
