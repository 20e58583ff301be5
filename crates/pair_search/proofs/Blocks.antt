-- Numbers of the search by blocks of 16: i is the place, n the end. Assumes nothing.
use mathlib.Core.Path.{◌≡◌}
use Prim.Native.Nat.{ℕ, ◌+◌, ◌-◌, ◌*◌, ◌^◌, ◌<◌, ◌≤◌}
use native.Mathlib.Omega.{arith}

pub block-fits : (len n i : ℕ) → i ≤ n → n ≤ len → len * 4 < 2 ^ 63 → i + 16 < 2 ^ 64
block-fits len n i h k l = omega (arith, h, k, l)

pub block-after : (i : ℕ) → i ≤ i + 16
block-after i = omega arith

pub block-less : (n i t : ℕ) → i + 16 ≤ n → n - i ≡ t → n - (i + 16) < t
block-less n i t h e = omega (arith, h, e)
