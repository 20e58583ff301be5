use Rattle.weights.proofs.Totals.{weight_is}
use native.Mathlib.Omega.{arith}
use Rattle.weights.proofs.weight.Goals as goal

pub returns : goal.returns
returns c = let a = c.args in weight_is a.f a.v c.weight.result c.requires (omega arith) (omega arith) (omega arith) c.weight.ensures
