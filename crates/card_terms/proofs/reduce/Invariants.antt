use Rattle.query.specs.Settings.{limits_of}
use Rattle.card_terms.specs.ReduceLaws.{Reducing}
use Rattle.card_terms.proofs.reduce.Given as goal

abbrev pub invariant-loop-lim : goal.invariant-loop-lim
invariant-loop-lim l = Reducing (limits_of l.lim) l.table l.m l.initial.terms l.initial.runs l.initial.frames l.top l.terms l.runs l.frames l.n

abbrev pub decreases-loop-lim : goal.decreases-loop-lim
decreases-loop-lim l = l.n
