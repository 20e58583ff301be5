use Rattle.class_place.proofs.Scan.{lacks-stood, lacks-new}
use mathlib.Core.Path.{sym, ◌∙◌}
use Rattle.class_place.proofs.lacks_place.Goals as goal

pub returns-then-stands_at : goal.returns-then-stands_at
returns-then-stands_at c = lacks-stood _ _ (sym c.stands_at.ensures ∙ c.if-stands_at.true)

pub returns : goal.returns
returns c =
    lacks-new _ c.args.mono.now c.args.n (sym c.stands_at.ensures ∙ c.if-stands_at.false)
