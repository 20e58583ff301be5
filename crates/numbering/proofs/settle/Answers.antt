use mathlib.Core.Path.{refl}
use Rattle.numbering.proofs.settle.Goals as goal

pub returns : goal.returns
returns c = rw (c.put_u16-2.ensures, c.put_u16.ensures) refl
