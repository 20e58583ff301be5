use Rattle.action_term.specs.ResultLaws.{over-same}
use Rattle.action_term.proofs.order_children.Goals as goal

pub returns-then-commutative : goal.returns-then-commutative
returns-then-commutative c = rw c.if-commutative.true c.sort.ensures

pub returns-else-commutative : goal.returns-else-commutative
returns-else-commutative c =
    let a = c.args in
    rw c.if-commutative.false (over-same a.list.now a.n c.requires.1)
