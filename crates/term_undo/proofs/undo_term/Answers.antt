use mathlib.Core.Path.{refl}
use Rattle.term_undo.proofs.undo_term.Goals as goal

pub returns : goal.returns
returns c = rw (c.put_u32-6.ensures, c.put_u32-5.ensures, c.put_u32-4.ensures, c.put_u32-3.ensures, c.put_u32-2.ensures, c.put_u32.ensures, c.short_size.ensures) refl
