use mathlib.Core.Path.{refl, sym, ◌∙◌}
use Rattle.card_cut.proofs.is_sign_byte.Goals as goal

pub returns-then-is_letter : goal.returns-then-is_letter
returns-then-is_letter c = rw (sym c.is_letter.ensures ∙ c.if-is_letter.true) refl

pub returns : goal.returns
returns c = rw (sym c.is_letter.ensures ∙ c.if-is_letter.false) c.is_symbol.ensures
