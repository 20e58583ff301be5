use native.Mathlib.Omega.{arith}
use mathlib.Core.Path.{ap, ◌∙◌}
use mathlib.Core.Bool.{true}
use Prim.Native.Nat.{ℕ}
use Rattle.budget.specs.Budget.{budget_of}
use Rattle.budget.specs.Checks.{many-pass, many-expire}
use Rattle.budget.proofs.Budget.spend_many.Goals as goal

pub returns-then-left-m : goal.returns-then-left-m
returns-then-left-m c =
    let a = c.args in
    many-expire a.m a.self (omega (arith, c.size_u32-left.ensures.0, c.if-left-m.true))

pub returns : goal.returns
returns c =
    let a = c.args in
    ap (λ (x : ℕ). record { budget = budget_of x; passed = true }) (omega (arith, c.short_size.ensures, c.size_u32-left.ensures.0))
    ∙ many-pass a.m a.self (omega (arith, c.size_u32-left.ensures.0, c.if-left-m.false))
