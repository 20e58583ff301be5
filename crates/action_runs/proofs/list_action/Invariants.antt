use Rattle.arrays.specs.Arrays.{term_in}
use Rattle.action_runs.specs.Listed.{Listed}
use Rattle.actions.specs.Place.{action_at}
use Rattle.spec.specs.Image.{tables_of}
use Rattle.action_runs.proofs.list_action.Given as goal

abbrev pub invariant-loop-k : goal.invariant-loop-k
invariant-loop-k l = Listed (term_in l.im.classes l.graph l.pairs) (action_at (tables_of l.s) l.v).pairs l.initial.list l.k l.list
