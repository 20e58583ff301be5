use borrow.Author.Tests.{eq-eqb}
use Rattle.id.proofs.Laws.{first, other}
use Rattle.id.proofs.is_ac.Goals as goal

pub returns-then-k-eq-MSET : goal.returns-then-k-eq-MSET
returns-then-k-eq-MSET c = first _ _ (eq-eqb _ _ c.if-k-eq-MSET.true)

pub returns : goal.returns
returns c = other _ _ _ c.if-k-eq-MSET.false
