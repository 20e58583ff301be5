use Rattle.sign_judge.specs.SignTests.{unknown, no_sign, not_own, too-low, too-high, bound}
use native.Mathlib.Omega.{arith}
use mathlib.Core.Path.{sym, ◌∙◌}
use Rattle.sign_judge.proofs.binding.Goals as goal

pub returns-then-o-operations : goal.returns-then-o-operations
returns-then-o-operations c = let a = c.args in unknown a.table.now a.o (omega arith)

pub returns-then-p-eq0 : goal.returns-then-p-eq0
returns-then-p-eq0 c = let a = c.args in too-low a.table.now a.o c.if-p-eq0.true

pub returns-then-p-gt9 : goal.returns-then-p-gt9
returns-then-p-gt9 c = let a = c.args in too-high a.table.now a.o c.if-p-gt9.true

pub returns-then-not-has_sign : goal.returns-then-not-has_sign
returns-then-not-has_sign c = let a = c.args in no_sign a.table.now a.o (sym c.if-not-has_sign.true ∙ c.has_sign.ensures)

pub returns-then-not-is_own : goal.returns-then-not-is_own
returns-then-not-is_own c = let a = c.args in not_own a.table.now a.o (sym c.if-not-is_own.true ∙ c.is_own.ensures)

pub returns : goal.returns
returns c =
    let a = c.args in
    bound a.table.now a.o (sym c.if-not-has_sign.false ∙ c.has_sign.ensures) (sym c.if-not-is_own.false ∙ c.is_own.ensures) c.if-p-eq0.false (omega arith)
