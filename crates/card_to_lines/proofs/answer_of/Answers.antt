use Rattle.card_to_lines.specs.LineLaws.{answer_as}
use mathlib.Core.Path.{ap, sym}
use Rattle.card_to_lines.proofs.answer_of.Goals as goal

-- src/lib.rt:27:1
pub returns-in-Some : goal.returns-in-Some
returns-in-Some c =
    sym (ap answer_as c.in-Some.is)
