use mathlib.Core.Path.{refl}
use Rattle.numbers.proofs.size_u64.Goals as goal

pub returns : goal.returns
returns c = refl
