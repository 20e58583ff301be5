use Rattle.wide.specs.Value.{unsigned}
use borrow.Author.Tests.{eq-eqb, ne_eqb}
use Prim.Native.Nat.{◌+◌, ◌*◌}
use native.Mathlib.Omega.{arith}
use mathlib.Core.Path.{◌≡◌}
use Rattle.slice_matrix.proofs.lay_flagged.Goals as goal

pub returns-then-flag-eq0 : goal.returns-then-flag-eq0
returns-then-flag-eq0 c = let a = c.args in let z : 0 * unsigned a.w + 0 ≡ 0 = omega arith in rw (eq-eqb a.flag 0 c.if-flag-eq0.true, z) c.put_cell.ensures

pub returns : goal.returns
returns c = let a = c.args in rw (ne_eqb a.flag 0 c.if-flag-eq0.false) c.lay_cell.ensures
