use mathlib.Core.Path.{refl}
use Rattle.term_entry.proofs.put_term.Goals as goal

pub returns : goal.returns
returns c = rw (c.put_u32-3.ensures, c.put_u32-2.ensures, c.put_u32.ensures) refl
