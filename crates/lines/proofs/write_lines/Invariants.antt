use Rattle.widths.specs.Lines.{lines_in}
use Rattle.decimals.specs.WriteLaws.{Left}
use Prim.Native.Nat.{◌≤◌, ◌-◌}
use Rattle.lines.proofs.write_lines.Given as goal

abbrev pub invariant-loop-k : goal.invariant-loop-k
invariant-loop-k l = (l.k ≤ l.n) × Left (lines_in l.terms l.runs l.marks l.k (l.n - l.k)) (lines_in l.terms l.runs l.marks 0 l.n) l.initial.out l.at0 l.out l.at
