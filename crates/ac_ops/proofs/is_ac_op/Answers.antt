use Rattle.ac_ops.specs.AcOps.{op-other, op-left, op-right}
use Rattle.spec.specs.Image.{tables_of}
use Rattle.ac_ops.proofs.is_ac_op.Goals as goal

pub kind-requires : goal.kind-requires
kind-requires c = (c.requires.0, c.requires.4)

pub returns-then-not-is_ac : goal.returns-then-not-is_ac
returns-then-not-is_ac c =
    op-other (tables_of c.args.s.now) c.args.l c.args.r c.args.op c.kind.result c.is_ac.result c.kind.ensures.0 c.is_ac.ensures c.if-not-is_ac.true

pub has_op-requires : goal.has_op-requires
has_op-requires c = (c.requires.0, c.requires.1, c.requires.2)

pub returns-then-has_op : goal.returns-then-has_op
returns-then-has_op c =
    op-left (tables_of c.args.s.now) c.args.l c.args.r c.args.op c.kind.result c.is_ac.result c.kind.ensures.0 c.is_ac.ensures
    c.has_op.result c.if-not-is_ac.false c.has_op.ensures c.if-has_op.true

pub returns : goal.returns
returns c =
    op-right (tables_of c.args.s.now) c.args.l c.args.r c.args.op c.kind.result c.is_ac.result c.kind.ensures.0 c.is_ac.ensures
    c.has_op.result c.has_op-2.result c.if-not-is_ac.false c.has_op.ensures c.if-has_op.false c.has_op-2.ensures
