use mathlib.Core.Path.{refl}
use Rattle.enumeration.proofs.itself.Goals as goal

pub returns : goal.returns
returns c = refl
