use mathlib.Core.Path.{refl}
use Rattle.numbers.proofs.long_size.Goals as goal

pub returns : goal.returns
returns c = refl
