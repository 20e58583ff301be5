use mathlib.Core.Path.{sym, ◌∙◌}
use Rattle.card_cut.proofs.cut_mark.Goals as goal

pub cut_literal-requires : goal.cut_literal-requires
cut_literal-requires c = (c.requires.0, sym c.is_digit.ensures ∙ c.if-is_digit.true)

pub returns-then-is_digit : goal.returns-then-is_digit
returns-then-is_digit c = c.cut_literal.ensures c.args.table.now

pub cut_list-requires : goal.cut_list-requires
cut_list-requires c = (c.requires.1, c.requires.0, sym c.is_digit.ensures ∙ c.if-is_digit.false, sym c.is_sign_byte.ensures ∙ c.if-is_sign_byte.true)

pub cut_plain-requires : goal.cut_plain-requires
cut_plain-requires c = (c.requires.0, sym c.is_digit.ensures ∙ c.if-is_digit.false, sym c.is_sign_byte.ensures ∙ c.if-is_sign_byte.false, c.if-c-eq32.false)

pub returns : goal.returns
returns c = c.cut_plain.ensures c.args.table.now
