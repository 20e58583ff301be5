use mathlib.Core.Path.{refl}
use native.Mathlib.Omega.{arith}
use Rattle.numbers.proofs.size_u8.Goals as goal

pub returns : goal.returns
returns c = (refl, omega arith)
