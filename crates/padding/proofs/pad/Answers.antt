use Rattle.padding.proofs.Padding.{pads-unmatched, pads-pair, pads-wide}
use Rattle.padding.proofs.pad.Goals as goal

pub returns-then-unmatched : goal.returns-then-unmatched
returns-then-unmatched c =
    pads-unmatched c.args.id c.args.n c.args.m c.args.left.now c.args.right.now c.requires c.unmatched.result c.total-a.result c.total-b.result
    c.total-a.ensures c.total-b.ensures c.unmatched.ensures c.if-unmatched.true

pub returns-then-both_narrow : goal.returns-then-both_narrow
returns-then-both_narrow c =
    pads-pair c.args.id c.args.n c.args.m c.total-a.result c.total-b.result c.args.left.now c.args.right.now c.level-rows.new.mono c.level-cols.new.mono c.level-rows.result c.level-cols.result c.requires c.total-a.ensures c.total-b.ensures c.level-rows.ensures c.level-cols.ensures
    c.unmatched.result c.both_narrow.result c.unmatched.ensures c.if-unmatched.false c.both_narrow.ensures c.if-both_narrow.true

pub returns : goal.returns
returns c =
    pads-wide c.args.id c.args.n c.args.m c.total-a.result c.total-b.result c.args.left.now c.args.right.now c.level-rows.new.mono c.level-cols.new.mono c.level-rows.result c.level-cols.result c.requires c.total-a.ensures c.total-b.ensures c.level-rows.ensures c.level-cols.ensures
    c.unmatched.result c.both_narrow.result c.unmatched.ensures c.if-unmatched.false c.both_narrow.ensures c.if-both_narrow.false
