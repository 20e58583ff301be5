use Rattle.spec.specs.Bytes.{decimal}
use Rattle.decimals.specs.WriteLaws.{room-first, room-second, wrote-both}
use Rattle.decimals.proofs.labelled.Goals as goal

pub text-a-requires : goal.text-a-requires
text-a-requires c =
    room-first c.args.b.now (decimal c.args.v) c.args.out.now c.args.at c.requires

pub decimal-requires : goal.decimal-requires
decimal-requires c =
    room-second c.args.b.now (decimal c.args.v) c.args.out.now c.args.at c.requires c.text-a.ensures

pub returns : goal.returns
returns c =
    wrote-both c.args.b.now (decimal c.args.v) c.args.out.now c.args.at c.requires c.text-a.ensures c.decimal.ensures
