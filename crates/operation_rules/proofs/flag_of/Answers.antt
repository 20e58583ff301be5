use mathlib.Core.Path.{refl}
use Rattle.operation_rules.proofs.flag_of.Goals as goal

pub returns-then-is_commutative : goal.returns-then-is_commutative
returns-then-is_commutative c = rw (← c.is_commutative.ensures, c.if-is_commutative.true) refl

pub returns : goal.returns
returns c = rw (← c.is_commutative.ensures, c.if-is_commutative.false) refl
