use Rattle.pair_settling.specs.Settling.{left, right, settled, marks_of}
use Prim.Native.Nat.{◌≤◌}
use mathlib.Core.Path.{◌≡◌}
use lib.ListN.{length}
use Rattle.settling.proofs.settle.Given as goal

abbrev pub invariant-loop-k : goal.invariant-loop-k
invariant-loop-k l = (l.k ≤ l.n) × (l.pairs ≡ settled l.initial.pairs l.k) × (l.lmarks ≡ marks_of left l.w l.graph l.initial.pairs l.initial.lmarks l.k) × (l.rmarks ≡ marks_of right l.w l.graph l.initial.pairs l.initial.rmarks l.k) × (length l.pairs ≡ length l.initial.pairs) × (length l.lmarks ≡ length l.initial.lmarks) × (length l.rmarks ≡ length l.initial.rmarks)
