use Rattle.std.proofs.Common.{◌-◌}
use Rattle.plans.proofs.decimal.Given as goal

abbrev pub decreases-loop-unit : goal.decreases-loop-unit
decreases-loop-unit l = l.unit - 1
