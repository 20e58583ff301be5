use Rattle.terms.specs.Buffers.{part}
use Prim.Native.Nat.{◌≤◌}
use mathlib.Core.Path.{◌≡◌}
use Rattle.interning.proofs.same_runs.Given as goal

abbrev pub invariant-loop-i : goal.invariant-loop-i
invariant-loop-i l = (l.i ≤ l.n) × (part l.runs l.from l.i ≡ part l.list 0 l.i)
