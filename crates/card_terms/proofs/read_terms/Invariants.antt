use Rattle.query.specs.Settings.{limits_of}
use Rattle.card_terms.proofs.ReadLaws.{Entering}
use Prim.Native.Nat.{◌-◌}
use lib.ListN.{length}
use Rattle.card_terms.proofs.read_terms.Given as goal

abbrev pub invariant-loop-at : goal.invariant-loop-at
invariant-loop-at l = Entering (limits_of l.lim) l.table l.text l.initial.terms l.initial.runs l.initial.frames l.terms l.runs l.frames l.at l.top

abbrev pub decreases-loop-at : goal.decreases-loop-at
decreases-loop-at l = length l.text - l.at
