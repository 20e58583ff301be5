-- Numbers of the walks' loops: i is the place, t or k + 1 how many are left, n the end. Assumes nothing.
use Rattle.std.specs.Prelude.{◌≡◌, ℕ, suc, ◌+◌, ◌-◌, ◌*◌, ◌^◌, ◌<◌, ◌≤◌}
use Rattle.std.proofs.Common.{arith}

-- where a record of four bytes begins
pub offset-fits : (n i : ℕ) → i < n → n * 4 < 2 ^ 63 → i * 4 < 2 ^ 64
offset-fits n i l r = omega (arith, l, r)

pub lt-le : (i m n : ℕ) → i < m → m ≤ n → i < n
lt-le i m n h k = omega (arith, h, k)

pub le-lt : (a b n : ℕ) → a ≤ b → b < n → a < n
le-lt a b n h k = omega (arith, h, k)

-- a place that rises to n
pub below_end : (n i k : ℕ) → i + suc k ≡ n → i < n
below_end n i k e = omega (arith, e)

pub at-end : (n i : ℕ) → i + 0 ≡ n → n ≤ i
at-end n i e = omega (arith, e)

pub i-fits : (n i t : ℕ) → i + t ≡ n → n < 2 ^ 64 → i < 2 ^ 64
i-fits n i t e l = omega (arith, e, l)

pub next_fits : (n i k : ℕ) → i + suc k ≡ n → n < 2 ^ 64 → i + 1 < 2 ^ 64
next_fits n i k e l = omega (arith, e, l)

pub step-on : (n i k : ℕ) → i + suc k ≡ n → (i + 1) + k ≡ n
step-on n i k e = omega (arith, e)

-- the same, where the place may begin past n
pub below-from : (n i k : ℕ) → n - i ≡ suc k → i < n
below-from n i k e = omega (arith, e)

pub end-from : (n i : ℕ) → n - i ≡ 0 → n ≤ i
end-from n i e = omega (arith, e)

pub next-from : (n i k : ℕ) → n - i ≡ suc k → n < 2 ^ 64 → i + 1 < 2 ^ 64
next-from n i k e l = omega (arith, e, l)

pub step_from : (n i k : ℕ) → n - i ≡ suc k → n - (i + 1) ≡ k
step_from n i k e = omega (arith, e)
