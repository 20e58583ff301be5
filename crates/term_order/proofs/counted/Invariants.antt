use Rattle.terms.specs.Buffers.{part}
use Rattle.term_order.specs.Comparing.{times_of}
use Prim.Native.Nat.{◌≤◌, ◌-◌, ◌+◌}
use mathlib.Core.Path.{◌≡◌}
use Rattle.term_order.proofs.counted.Given as goal

abbrev pub invariant-loop-i : goal.invariant-loop-i
invariant-loop-i l = (l.i ≤ l.end) × (l.n + times_of (part l.runs l.i (l.end - l.i)) ≡ times_of (part l.runs l.from (l.end - l.from)))
