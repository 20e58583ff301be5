use mathlib.Core.Path.{ap, sym}
use Rattle.last_card.specs.LastLaws.{answer_as}
use Rattle.last_card.proofs.answer_of.Goals as goal

-- src/lib.rt:15:1
pub returns-in-Ok : goal.returns-in-Ok
returns-in-Ok c = sym (ap answer_as c.in-Ok.is)
