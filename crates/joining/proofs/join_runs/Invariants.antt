use Rattle.joining.specs.Joining.{joined_in, Begins}
use Prim.Native.Nat.{◌≤◌}
use mathlib.Core.Path.{◌≡◌}
use lib.ListN.{length}
use Rattle.joining.proofs.join_runs.Given as goal

abbrev pub invariant-loop-i : goal.invariant-loop-i
invariant-loop-i l = (l.i ≤ l.n) × (l.m ≤ l.i) × (length l.list ≡ length l.initial.list) × Begins (joined_in l.initial.list l.i) l.initial.list l.list l.m
