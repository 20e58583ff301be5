use Rattle.widths.specs.Lines.{runs_in}
use Prim.Native.Nat.{◌≤◌, ◌-◌, ◌+◌, ◌*◌}
use mathlib.Core.Path.{◌≡◌}
use lib.ListN.{length}
use Rattle.widths.proofs.runs_width.Given as goal

abbrev pub invariant-loop-i : goal.invariant-loop-i
invariant-loop-i l = (l.from ≤ l.i) × (l.i ≤ l.to) × (l.n + 42 * l.from ≤ 42 * l.i) × (l.n + length (runs_in l.runs l.marks l.i (l.to - l.i)) ≡ length (runs_in l.runs l.marks l.from (l.to - l.from)))
