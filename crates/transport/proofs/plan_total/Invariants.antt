use Rattle.transport.proofs.Totals.{Summed}
use Prim.Native.Nat.{◌≤◌}
use lib.ListN.{length}
use Rattle.transport.proofs.plan_total.Given as goal

abbrev pub invariant-loop-i : goal.invariant-loop-i
invariant-loop-i l = (l.i ≤ length l.plan) × Summed l.plan l.per l.allowed (length l.plan) l.i l.t
