use Rattle.widths.specs.WidthLaws.{lit-length, variants_length, op-length}
use native.Mathlib.Omega.{arith}
use Rattle.widths.proofs.head_width.Goals as goal

pub returns-then-h-eq1 : goal.returns-then-h-eq1
returns-then-h-eq1 c =
    let a = c.args in
    omega (arith, lit-length a.h a.v c.if-h-eq1.true, rw c.long_u32.ensures.0 at c.digits-a.ensures, rw c.long_u32-then-h-eq1.ensures.0 at c.digits.ensures)

pub returns-then-h-eq2 : goal.returns-then-h-eq2
returns-then-h-eq2 c =
    let a = c.args in
    omega (arith, variants_length a.h a.v c.if-h-eq2.true)

pub returns : goal.returns
returns c =
    let a = c.args in
    omega (arith, op-length a.h a.v c.if-h-eq1.false c.if-h-eq2.false, rw c.long_u32-2.ensures.0 at c.digits-2.ensures)
