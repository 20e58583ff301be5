use mathlib.Core.Path.{refl}
use Rattle.au.proofs.asked.Goals as goal

pub returns : goal.returns
returns c = refl
