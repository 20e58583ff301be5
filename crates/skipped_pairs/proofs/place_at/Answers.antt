use mathlib.Core.Path.{refl}
use Rattle.skipped_pairs.proofs.place_at.Goals as goal

pub returns : goal.returns
returns c = refl
