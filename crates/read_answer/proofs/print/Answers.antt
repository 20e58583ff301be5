use Rattle.card_contract.specs.declared.Answer.TheVariants.{Text, Refused}
use Rattle.frames.specs.Frame.{refusal_bytes}
use Rattle.frames.specs.Printing.{wrote-front}
use Rattle.read_answer.specs.ReadingLaws.{prints-as}
use mathlib.Core.Path.{refl}
use Rattle.read_answer.proofs.print.Goals as goal

-- src/lib.rt:43:1
pub returns-in-Text : goal.returns-in-Text
returns-in-Text c =
    prints-as c.args.out.now c.args.out.now c.args.a (Text c.in-Text.n) c.in-Text.n c.in-Text.is (refl, refl)

-- src/lib.rt:43:1
pub returns-in-Refused : goal.returns-in-Refused
returns-in-Refused c =
    prints-as c.args.out.now _ c.args.a (Refused c.in-Refused.k) _ c.in-Refused.is (wrote-front (refusal_bytes c.in-Refused.k) c.args.out.now _ _ c.refusal.ensures)
