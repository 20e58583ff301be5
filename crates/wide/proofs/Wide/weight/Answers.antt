use Rattle.std.proofs.Common.{arith, rules}
use Rattle.wide.specs.Value.{val}
use Rattle.wide.specs.Bounds.{within-pos, add-pos, times-pos}
use Rattle.wide.proofs.Times.{times-within}
use Rattle.wide.proofs.Wide.weight.Goals as goal

pub times-p-requires : goal.times-p-requires
times-p-requires c = within-pos 86 c.of.ensures (omega arith)

pub add-requires : goal.add-requires
add-requires c =
    let f = c.of in
    (times-within (val f.result) c.args.v c.times-p.ensures (within-pos 86 f.ensures (omega arith)) (omega arith), within-pos 118 c.of-2.ensures (omega arith))

pub returns : goal.returns
returns c = add-pos c.add.ensures (times-pos c.args.v c.times-p.ensures c.of.ensures) c.of-2.ensures
