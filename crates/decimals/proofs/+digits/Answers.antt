use Rattle.std.proofs.Common.{arith}
use Rattle.decimals.specs.DecimalLaws.{decimal-short, decimal-length-one, decimal-length-more}
use Rattle.decimals.proofs.+digits.Goals as goal

pub returns-then-v-lt10 : goal.returns-then-v-lt10
returns-then-v-lt10 t c = omega (arith, decimal-length-one c.args.v (omega arith))

pub returns : goal.returns
returns t c = omega (arith, decimal-length-more c.args.v (omega arith), decimal-short c.args.v (omega arith))
