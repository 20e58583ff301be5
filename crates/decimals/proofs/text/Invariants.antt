use lib.Seq.{paste}
use Prim.Native.Nat.{◌≤◌}
use mathlib.Core.Path.{◌≡◌}
use lib.ListN.{length}
use Rattle.decimals.proofs.text.Given as goal

abbrev pub invariant-loop-i : goal.invariant-loop-i
invariant-loop-i l = (l.i ≤ length l.b) × (length l.out ≡ length l.initial.out) × (l.out ≡ paste l.initial.out l.at l.b l.i)
