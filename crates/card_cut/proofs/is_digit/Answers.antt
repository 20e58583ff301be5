use borrow.Author.Tests.{le-leb, lt-leb}
use mathlib.Core.Path.{refl}
use Rattle.card_cut.proofs.is_digit.Goals as goal

pub returns-then-c-lt48 : goal.returns-then-c-lt48
returns-then-c-lt48 c = rw (lt-leb 48 c.args.c c.if-c-lt48.true) refl

pub returns : goal.returns
returns c = rw (le-leb 48 c.args.c c.if-c-lt48.false) refl
