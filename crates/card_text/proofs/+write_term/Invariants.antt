use Rattle.card_text.specs.TermLaws.{Series}
use Rattle.card_text.proofs.+write_term.Given as goal

abbrev pub decreases-write_term : goal.decreases-write_term
decreases-write_term l = l.a

abbrev pub invariant-loop-i : goal.invariant-loop-i
invariant-loop-i l = Series l.table l.terms l.runs l.h l.from l.to l.initial.out l.initial.at l.out l.at l.i
