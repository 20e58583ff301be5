use Rattle.laws.specs.Firsts.{turn-stop, turn_more, turn_end, first-end}
use Rattle.ac_ops.specs.AcOps.{ac_op}
use Rattle.spec.specs.Image.{tables_of}
use native.Mathlib.Omega.{arith}
use mathlib.Core.Path.{refl}
use Rattle.ac_ops.proofs.next_op.Goals as goal

pub loop-i-init : goal.loop-i-init
loop-i-init c = refl

pub is_ac_op-requires : goal.is_ac_op-requires
is_ac_op-requires c = (c.requires.0, c.requires.1, c.requires.2, c.requires.3, c.loop-i-test.true)

pub returns-then-is_ac_op : goal.returns-then-is_ac_op
returns-then-is_ac_op c =
    turn-stop (ac_op (tables_of c.args.s.now) c.args.l c.args.r) c.args.o c.args.im.operations c.loop-i.i c.loop-i.invariant c.is_ac_op.result c.loop-i-test.true c.is_ac_op.ensures c.if-is_ac_op.true

pub loop-i-preserved : goal.loop-i-preserved
loop-i-preserved c =
    turn_more (ac_op (tables_of c.args.s.now) c.args.l c.args.r) c.args.o c.args.im.operations c.loop-i.i c.loop-i.invariant c.is_ac_op.result c.loop-i-test.true c.is_ac_op.ensures c.if-is_ac_op.false

pub returns : goal.returns
returns c =
    let p = ac_op (tables_of c.args.s.now) c.args.l c.args.r in
    grind (arith, turn_end p c.args.o c.args.im.operations c.loop-i.i c.loop-i.invariant c.loop-i-test.false, first-end p c.args.o c.args.im.operations)
