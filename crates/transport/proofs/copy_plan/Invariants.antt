use Rattle.transport.proofs.Answers.{Copied}
use Prim.Native.Nat.{◌≤◌}
use mathlib.Core.Path.{◌≡◌}
use lib.ListN.{length}
use Rattle.transport.proofs.copy_plan.Given as goal

abbrev pub invariant-loop-k : goal.invariant-loop-k
invariant-loop-k l = (l.k ≤ length l.plan) × (length l.plan ≡ length l.initial.plan) × Copied l.flow l.plan l.k
