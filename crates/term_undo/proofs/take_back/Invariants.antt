use Rattle.term_undo.specs.UndoLaws.{Undoing}
use Rattle.term_undo.proofs.take_back.Given as goal

abbrev pub invariant-loop-i : goal.invariant-loop-i
invariant-loop-i l = Undoing l.n l.initial.terms l.initial.runs l.terms l.runs l.i
