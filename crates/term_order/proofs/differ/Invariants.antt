use Rattle.terms.specs.Buffers.{part}
use Rattle.term_order.specs.Comparing.{diff_numbers}
use Prim.Native.Nat.{◌-◌}
use mathlib.Core.Path.{◌≡◌}
use Rattle.term_order.proofs.differ.Given as goal

abbrev pub invariant-loop-i : goal.invariant-loop-i
invariant-loop-i l = diff_numbers (part l.runs l.i (l.m - l.i)) (part l.runs l.j (l.n - l.j)) ≡ diff_numbers (part l.runs l.i0 (l.m - l.i0)) (part l.runs l.j0 (l.n - l.j0))
