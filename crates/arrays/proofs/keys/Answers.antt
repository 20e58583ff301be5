use Rattle.arrays.specs.ArrayLaws.{square}
use native.Mathlib.Omega.{arith}
use mathlib.Core.Path.{refl}
use Rattle.arrays.proofs.keys.Goals as goal

pub overflow_mul-result : goal.overflow_mul-result
overflow_mul-result c = omega (arith, square c.args.w c.requires)

pub returns : goal.returns
returns c = (refl, square c.args.w c.requires)
