use Rattle.arrays.specs.ArrayLaws.{place-lt, square}
use native.Mathlib.Omega.{arith}
use mathlib.Core.Path.{refl}
use Rattle.arrays.proofs.place.Goals as goal

pub overflow_mul-result : goal.overflow_mul-result
overflow_mul-result c = omega (arith, square c.args.w c.requires.0, place-lt c.args.w c.args.l c.args.r c.requires.1 c.requires.2)

pub overflow_add-result : goal.overflow_add-result
overflow_add-result c = omega (arith, square c.args.w c.requires.0, place-lt c.args.w c.args.l c.args.r c.requires.1 c.requires.2)

pub returns : goal.returns
returns c = (refl, place-lt c.args.w c.args.l c.args.r c.requires.1 c.requires.2)
