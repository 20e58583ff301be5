use borrow.Author.Tests.{eq-eqb, ne_eqb}
use mathlib.Core.Path.{refl}
use Rattle.weights.proofs.if_allowed.Goals as goal

pub returns-then-flag-eq0 : goal.returns-then-flag-eq0
returns-then-flag-eq0 c = rw (eq-eqb c.args.flag 0 c.if-flag-eq0.true) refl

pub returns : goal.returns
returns c = rw (ne_eqb c.args.flag 0 c.if-flag-eq0.false) refl
