use Rattle.card_widths.specs.WidthLaws.{Charged}
use Rattle.card_widths.proofs.+measure.Given as goal

abbrev pub decreases-measure : goal.decreases-measure
decreases-measure l = l.a

abbrev pub invariant-loop-i : goal.invariant-loop-i
invariant-loop-i l = Charged l.table l.terms l.runs l.h l.from l.to l.initial.room l.room l.i
