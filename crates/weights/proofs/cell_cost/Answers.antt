use Rattle.weights.proofs.Totals.{w-within, weighed}
use native.Mathlib.Omega.{arith}
use Rattle.weights.proofs.cell_cost.Goals as goal

pub weigh-requires : goal.weigh-requires
weigh-requires c = w-within c.args.w c.requires

pub returns : goal.returns
returns c = let a = c.args in weighed a.size a.mass a.w c.weigh.result c.requires (omega arith) (omega arith) c.weigh.ensures
