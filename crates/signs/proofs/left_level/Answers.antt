use borrow.Author.Tests.{eq-eqb, ne_eqb}
use native.Mathlib.Numerals.{add-one}
use Rattle.signs.proofs.left_level.Goals as goal

pub returns-then-table-p-eq0 : goal.returns-then-table-p-eq0
returns-then-table-p-eq0 c = rw (eq-eqb _ _ c.if-table-p-eq0.true)

pub returns : goal.returns
returns c = rw (ne_eqb _ _ c.if-table-p-eq0.false, add-one)
