use Rattle.padding.proofs.Padding.{pads-itself, pads-other}
use Rattle.padding.proofs.pad_pair.Goals as goal

pub returns-then-both_itself : goal.returns-then-both_itself
returns-then-both_itself c =
    pads-itself c.args.id c.args.l c.args.r c.args.n c.args.m c.args.left.now c.args.right.now c.requires c.both_itself.result c.both_itself.ensures c.if-both_itself.true

pub returns : goal.returns
returns c =
    pads-other c.args.id c.args.l c.args.r c.args.n c.args.m c.args.left.now c.args.right.now c.requires c.both_itself.result
    c.pad.new.left c.pad.new.right c.pad.result c.both_itself.ensures c.if-both_itself.false c.pad.ensures
