use Prim.Native.Nat.{◌*◌}
use native.Mathlib.Omega.{arith}
use Rattle.numbering.specs.NumberLaws.{at-within}
use Rattle.numbering.proofs.number_of.Goals as goal

pub overflow_mul-t : goal.overflow_mul-t
overflow_mul-t c = omega (arith, at-within c.args.marks.now (2 * c.args.t) c.requires)

pub at_u16-requires : goal.at_u16-requires
at_u16-requires c = at-within c.args.marks.now (2 * c.args.t) c.requires

pub overflow_sub-at_u16 : goal.overflow_sub-at_u16
overflow_sub-at_u16 c = omega (arith, c.at_u16.ensures.0, c.requires)

pub returns : goal.returns
returns c = omega (arith, c.long_size.ensures, c.at_u16.ensures.0)
