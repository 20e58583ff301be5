use Rattle.std.proofs.Common.{length, ◌≤◌}
use Rattle.plans.proofs.numbers.Given as goal

abbrev pub invariant-loop-n : goal.invariant-loop-n
invariant-loop-n l = l.at ≤ length l.s
