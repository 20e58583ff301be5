use Prim.Native.Nat.{◌-◌}
use lib.ListN.{length}
use Rattle.term_lines.specs.RunLaws.{Staging}
use Rattle.term_lines.proofs.cut_runs.Given as goal

abbrev pub invariant-loop-at0 : goal.invariant-loop-at0
invariant-loop-at0 l = Staging l.text l.at0 l.k l.initial.list l.list l.at l.n l.last l.left

abbrev pub decreases-loop-at0 : goal.decreases-loop-at0
decreases-loop-at0 l = length l.text - l.at
