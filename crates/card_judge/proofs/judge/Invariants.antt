use Rattle.card_judge.specs.JudgeLaws.{Judging}
use Rattle.card_judge.proofs.judge.Given as goal

abbrev pub invariant-loop-c : goal.invariant-loop-c
invariant-loop-c l = Judging l.binds l.terms l.runs l.initial.marks l.root l.marks l.c

abbrev pub decreases-loop-c : goal.decreases-loop-c
decreases-loop-c l = l.c
