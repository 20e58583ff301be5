use mathlib.Core.Path.{refl}
use Rattle.card_widths.proofs.gaps.Goals as goal

pub returns-then-first : goal.returns-then-first
returns-then-first c = rw c.if-first.true refl

pub returns : goal.returns
returns c = rw c.if-first.false refl
