use native.Mathlib.Omega.{arith}
use Rattle.spec.specs.Image.{arities}
use Rattle.id.proofs.Laws.{arity-in, arity-out}
use Rattle.id.proofs.arity.Goals as goal

pub returns-then-k-lt10 : goal.returns-then-k-lt10
unfolding arities
returns-then-k-lt10 c = arity-in c.args.k c.if-k-lt10.true

pub returns : goal.returns
returns c = arity-out c.args.k (omega arith)
