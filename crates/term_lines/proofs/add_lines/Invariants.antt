use Prim.Native.Nat.{◌-◌}
use lib.ListN.{length}
use Rattle.query.specs.Settings.{limits_of}
use Rattle.term_lines.specs.LoadLaws.{Loading}
use Rattle.term_lines.proofs.add_lines.Given as goal

abbrev pub invariant-loop-at : goal.invariant-loop-at
invariant-loop-at l = Loading (limits_of l.lim) l.text l.initial.list l.initial.terms l.initial.runs l.list l.terms l.runs l.at

abbrev pub decreases-loop-at : goal.decreases-loop-at
decreases-loop-at l = length l.text - l.at
