use mathlib.Core.Path.{◌∙◌}
use borrow.Author.Tests.{eq-eqb}
use Rattle.id.proofs.Laws.{first, other}
use Rattle.id.proofs.is_commutative.Goals as goal

pub returns-then-k-eq-SPAIR : goal.returns-then-k-eq-SPAIR
returns-then-k-eq-SPAIR c = first _ _ (eq-eqb _ _ c.if-k-eq-SPAIR.true)

pub returns : goal.returns
returns c = c.is_ac.ensures ∙ other _ _ _ c.if-k-eq-SPAIR.false
