use Rattle.widths.specs.Lines.{runs_in}
use Rattle.decimals.specs.WriteLaws.{Left}
use Prim.Native.Nat.{◌≤◌, ◌-◌}
use Rattle.lines.proofs.write_runs.Given as goal

abbrev pub invariant-loop-i : goal.invariant-loop-i
invariant-loop-i l = (l.from ≤ l.i) × (l.i ≤ l.to) × Left (runs_in l.runs l.marks l.i (l.to - l.i)) (runs_in l.runs l.marks l.from (l.to - l.from)) l.initial.out l.at0 l.out l.at
