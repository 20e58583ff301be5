-- "With budget B, the first B checks pass and the next one is expired": what is left, by what was answered.
use Rattle.std.specs.Prelude.{◌≡◌, refl, Bool, true, false, not, ℕ, zero, suc, ◌+◌, ◌<◌}
use Rattle.std.proofs.Common.{sym, ap, ◌∙◌, arith}
use Rattle.std.proofs.Math.Decide.{dec_lt}
use Rattle.budget.specs.declared.Budget.{Budget}
use Rattle.budget.specs.declared.Spent.{Spent}
use Rattle.budget.specs.Budget.{spend_at, spend_of, spend_many_of}
use Rattle.budget.specs.Checks.{many-pass, many-expire}
use Rattle.laws.specs.Tests.{clash}

none_left : (b : ℕ) → (spend_at b).passed ≡ false → b ≡ 0
none_left zero e = refl
none_left (suc b) e = absurd (clash e)

one_less : (b : ℕ) → (spend_at b).passed ≡ true → b ≡ (spend_at b).budget.left + 1
one_less zero e = absurd (clash (sym e))
one_less (suc b) e = omega arith

-- a test of `!b`
pub was-false : (b : Bool) → not b ≡ true → b ≡ false
was-false true e = sym e
was-false false e = refl

pub was-true : (b : Bool) → not b ≡ false → b ≡ true
was-true true e = refl
was-true false e = sym e

-- ---- a check
module _ (b : Budget) (r : Spent) (is : r ≡ spend_of b) where
  pub expired : not r.passed ≡ true → b.left ≡ 0
  expired e = none_left b.left (ap (λ (x : Spent). x.passed) (sym is) ∙ was-false r.passed e)

  pub spent : not r.passed ≡ false → b.left ≡ r.budget.left + 1
  spent e = one_less b.left (ap (λ (x : Spent). x.passed) (sym is) ∙ was-true r.passed e) ∙ ap (λ (x : Spent). x.budget.left + 1) (sym is)

-- ---- n checks
module _ (n : ℕ) (b : Budget) (r : Spent) (is : r ≡ spend_many_of n b) where
  pub too_few : not r.passed ≡ true → b.left < n
  too_few e = go (dec_lt b.left n)
    where
      go : Dec (b.left < n) → b.left < n
      go (yes h) = h
      go (no h) = absurd (clash (sym e ∙ ap (λ (x : Spent). not x.passed) (is ∙ sym (many-pass n b (omega arith)))))

  pub enough : not r.passed ≡ false → b.left ≡ r.budget.left + n
  enough e = go (dec_lt b.left n)
    where
      go : Dec (b.left < n) → b.left ≡ r.budget.left + n
      go (yes h) = absurd (clash (ap (λ (x : Spent). not x.passed) (many-expire n b h ∙ sym is) ∙ e))
      go (no h) = omega (arith, ap (λ (x : Spent). x.budget.left) (is ∙ sym (many-pass n b (omega arith))))
