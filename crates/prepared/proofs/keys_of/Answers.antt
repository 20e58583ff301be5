use Rattle.prepared.specs.Pairs.{keys_of}
use Rattle.prepared.specs.declared.Prepared.TheVariants.{Go}
use native.Mathlib.Omega.{arith}
use mathlib.Core.Path.{◌≡◌, ap, sym}
use Rattle.prepared.proofs.keys_of.Goals as goal

pub overflow_mul-result : goal.overflow_mul-result
overflow_mul-result c = let e : keys_of c.args.p ≡ keys_of (Go c.in-Go.im c.in-Go.b) = ap keys_of c.in-Go.is in omega (arith, e, c.requires)

pub returns-in-Go : goal.returns-in-Go
returns-in-Go c = sym (ap keys_of c.in-Go.is)
