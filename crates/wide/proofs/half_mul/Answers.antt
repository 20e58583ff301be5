use Rattle.std.proofs.Common.{◌-◌, ◌^◌, arith, rules}
use Rattle.wide.proofs.Columns.{bound}
use Rattle.wide.proofs.half_mul.Goals as goal

pub overflow_mul-result : goal.overflow_mul-result
overflow_mul-result c = omega (arith, bound c.args.a c.args.b (2 ^ 32 - 1) (omega arith) (omega arith))

pub overflow_add-result : goal.overflow_add-result
overflow_add-result c = omega (arith, bound c.args.a c.args.b (2 ^ 32 - 1) (omega arith) (omega arith))

pub overflow_add-result-2 : goal.overflow_add-result-2
overflow_add-result-2 c = omega (arith, bound c.args.a c.args.b (2 ^ 32 - 1) (omega arith) (omega arith))
