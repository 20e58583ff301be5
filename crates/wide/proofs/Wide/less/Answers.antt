use Rattle.std.proofs.Common.{arith, rules}
use Rattle.wide.proofs.Order.{less-high, more-high, same-high}
use Rattle.wide.proofs.Wide.less.Goals as goal

pub returns-then-x-y : goal.returns-then-x-y
returns-then-x-y c =
    let x = c.wrapping_add_u64-x in
    let y = c.wrapping_add_u64-y in
    less-high c.args.self c.args.b x.result y.result (record { low = omega arith; high = omega arith }) (record { low = omega arith; high = omega arith }) x.ensures.value y.ensures.value c.if-x-y.true

pub returns-then-y-x : goal.returns-then-y-x
returns-then-y-x c =
    let x = c.wrapping_add_u64-x in
    let y = c.wrapping_add_u64-y in
    more-high c.args.self c.args.b x.result y.result (record { low = omega arith; high = omega arith }) (record { low = omega arith; high = omega arith }) x.ensures.value y.ensures.value c.if-y-x.true

pub returns : goal.returns
returns c =
    let x = c.wrapping_add_u64-x in
    let y = c.wrapping_add_u64-y in
    same-high c.args.self c.args.b x.result y.result (record { low = omega arith; high = omega arith }) (record { low = omega arith; high = omega arith }) x.ensures.value y.ensures.value (omega arith) (omega arith)
