use Rattle.terms.specs.Buffers.{pool_of}
use Rattle.action_term.specs.SortLaws.{Moving}
use Rattle.action_term.proofs.insert.Given as goal

abbrev pub invariant-loop-j : goal.invariant-loop-j
invariant-loop-j l = Moving (pool_of l.terms l.runs) l.initial.list l.i l.n l.x l.list l.j
