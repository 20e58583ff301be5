use Rattle.card_terms.specs.CloseLaws.{Scanning}
use Rattle.card_terms.proofs.first_item.Given as goal

abbrev pub invariant-loop-i : goal.invariant-loop-i
invariant-loop-i l = Scanning l.frames l.top l.i

abbrev pub decreases-loop-i : goal.decreases-loop-i
decreases-loop-i l = l.i
