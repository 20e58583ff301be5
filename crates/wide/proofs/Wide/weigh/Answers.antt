use Rattle.std.proofs.Common.{arith, rules}
use Rattle.wide.specs.Value.{val}
use Rattle.wide.specs.Bounds.{within-pos}
use Rattle.wide.proofs.Times.{times-within, weigh-law}
use Rattle.wide.proofs.Wide.weigh.Goals as goal

pub add-requires : goal.add-requires
add-requires c =
    (times-within (val c.args.w) c.args.size c.times-p.ensures c.requires (omega arith), within-pos 118 c.of.ensures (omega arith))

pub returns : goal.returns
returns c =
    let a = c.args in
    weigh-law (val a.w) a.size a.mass c.times-p.ensures c.of.ensures c.add.ensures
