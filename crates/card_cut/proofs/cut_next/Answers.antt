use Rattle.card_cut.specs.PlainLaws.{next-there, next-missing}
use mathlib.Core.Path.{sym, ◌∙◌}
use Rattle.card_cut.proofs.cut_next.Goals as goal

pub returns-then-starts_with : goal.returns-then-starts_with
returns-then-starts_with c = λ t. next-there t c.args.text.now c.args.at c.requires.0 c.requires.1 (sym c.if-starts_with.true ∙ c.starts_with.ensures)

pub returns : goal.returns
returns c = λ t. next-missing t c.args.text.now c.args.at c.requires.0 c.requires.1 (sym c.if-starts_with.false ∙ c.starts_with.ensures)
