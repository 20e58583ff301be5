use Rattle.widths.specs.Lines.{lines_in}
use Prim.Native.Nat.{◌≤◌, ◌-◌, ◌+◌, ◌*◌}
use mathlib.Core.Path.{◌≡◌}
use lib.ListN.{length}
use Rattle.widths.proofs.lines_width.Given as goal

abbrev pub invariant-loop-k : goal.invariant-loop-k
invariant-loop-k l = (l.k ≤ l.n) × (l.w ≤ 3000000 * l.k) × (l.w + length (lines_in l.terms l.runs l.marks l.k (l.n - l.k)) ≡ length (lines_in l.terms l.runs l.marks 0 l.n))
