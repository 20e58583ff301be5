use Rattle.std.proofs.Common.{[], arith}
use Rattle.decimals.specs.DecimalLaws.{decimal-length-one}
use Rattle.decimals.specs.WriteLaws.{wrote-digit, front_fits, last_fits, wrote-last}
use Rattle.decimals.proofs.+decimal.Goals as goal

pub put-requires : goal.put-requires
put-requires t c = omega (arith, c.requires, decimal-length-one c.args.v (omega arith))

pub returns-then-v-lt10 : goal.returns-then-v-lt10
returns-then-v-lt10 t c =
    wrote-digit c.args.v c.args.out.now c.args.at (omega arith) c.requires c.digit.ensures c.put.ensures

pub decimal-a-requires : goal.decimal-a-requires
decimal-a-requires t c =
    (omega arith, front_fits c.args.v c.args.out.now c.args.at [] 0 (omega arith) c.requires)

pub put-requires-2 : goal.put-requires-2
put-requires-2 t c =
    last_fits c.args.v c.args.out.now c.args.at _ c.decimal-a.result (omega arith) c.requires c.decimal-a.ensures

pub returns : goal.returns
returns t c =
    wrote-last c.args.v c.args.out.now c.args.at _ c.decimal-a.result (omega arith) c.requires c.decimal-a.ensures c.digit-2.ensures c.put-2.ensures
