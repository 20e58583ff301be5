use Rattle.std.proofs.Common.{refl, arith, rules}
use Rattle.wide.proofs.Times.{times-law}
use Rattle.wide.proofs.Wide.times.Goals as goal

pub returns : goal.returns
returns c =
    let p = c.mul_half-p in
    let q = c.mul_half-q in
    let h = c.add_word-h in
    times-law c.args.self p.result q.result (record { lo = p.result.lo; hi = h.result.word }) c.args.k h.result.carry
    (record { low = omega arith; high = omega arith }) (record { low = omega arith; high = omega arith }) (record { low = omega arith; high = omega arith }) (omega arith) c.requires p.ensures q.ensures refl h.ensures.0
