use borrow.Author.Tests.{eq-eqb, ne_eqb}
use Prim.Native.Nat.{◌/◌}
use mathlib.Core.Path.{refl}
use Rattle.card_judge.proofs.is_bound.Goals as goal

pub returns-then-h-eq0 : goal.returns-then-h-eq0
returns-then-h-eq0 c = rw (eq-eqb (c.args.h / 64) 0 c.if-h-eq0.true, c.size_u32-o.ensures.0) refl

pub returns : goal.returns
returns c = rw (ne_eqb (c.args.h / 64) 0 c.if-h-eq0.false) refl
