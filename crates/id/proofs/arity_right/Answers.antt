use Rattle.id.proofs.Laws.{right-free, right-fixed}
use Rattle.id.proofs.arity_right.Goals as goal

pub returns-then-a : goal.returns-then-a
returns-then-a c = let a = c.args in right-free a.k a.n c.arity-a.result c.arity-a.ensures c.if-a.true

pub returns : goal.returns
returns c = let a = c.args in right-fixed a.k a.n c.arity-a.result c.size_u8.result c.arity-a.ensures c.if-a.false c.size_u8.ensures.0
