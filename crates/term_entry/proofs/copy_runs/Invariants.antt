use lib.Seq.{paste}
use Prim.Native.Nat.{◌≤◌}
use mathlib.Core.Path.{◌≡◌}
use lib.ListN.{length}
use Rattle.term_entry.proofs.copy_runs.Given as goal

abbrev pub invariant-loop-i : goal.invariant-loop-i
invariant-loop-i l = (l.i ≤ l.n) × (length l.runs ≡ length l.initial.runs) × (l.runs ≡ paste l.initial.runs l.from l.list l.i)
