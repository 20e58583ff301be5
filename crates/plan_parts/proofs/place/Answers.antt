use borrow.Author.Rules.{rules}
use Prim.Native.Nat.{ℕ, suc, ◌+◌, ◌*◌, ◌≤◌, ◌<◌}
use native.Mathlib.Nat.{mul-le-mul}
use native.Mathlib.Omega.{arith}
use mathlib.Core.Path.{refl}
use Rattle.spec.specs.Transport.{WIDEST}
use Rattle.plan_parts.proofs.place.Goals as goal

place-fits : (i j c : ℕ) → i < WIDEST → j < c → c ≤ WIDEST → i * c + j < WIDEST * WIDEST
place-fits i j c a b d = omega (arith, mul-le-mul {n₁ = suc i} {m₁ = c} {n₂ = WIDEST} {m₂ = WIDEST} a d)

pub overflow_mul-result : goal.overflow_mul-result
overflow_mul-result c = let a = c.args in let h = place-fits a.i a.j a.c (omega arith) (omega arith) (omega arith) in search rules

pub overflow_add-result : goal.overflow_add-result
overflow_add-result c = let a = c.args in let h = place-fits a.i a.j a.c (omega arith) (omega arith) (omega arith) in search rules

pub returns : goal.returns
returns c = refl
