use borrow.Author.Tests.{eq-eqb, ne_eqb}
use Prim.Native.Nat.{◌/◌}
use mathlib.Core.Path.{refl}
use Rattle.card_widths.proofs.gap_width.Goals as goal

pub returns-then-h-eq2 : goal.returns-then-h-eq2
returns-then-h-eq2 c = rw (eq-eqb (c.args.h / 64) 2 c.if-h-eq2.true) refl

pub returns : goal.returns
returns c = rw (ne_eqb (c.args.h / 64) 2 c.if-h-eq2.false) refl
