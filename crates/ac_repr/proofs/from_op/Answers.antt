use Rattle.ac_repr.proofs.Steps.{ahead, ops-at, ops-next, ops-end}
use Rattle.image.specs.Loaded.{operations-many}
use Rattle.spec.specs.Image.{tables_of}
use Prim.Native.Nat.{◌+◌}
use native.Mathlib.Omega.{arith}
use mathlib.Core.Path.{sym}
use Rattle.ac_repr.proofs.from_op.Goals as goal

pub first_member-from-requires : goal.first_member-from-requires
first_member-from-requires c = (c.requires.0, c.requires.2)

pub next_op-i-requires : goal.next_op-i-requires
next_op-i-requires c = (c.requires.0, c.requires.1, c.requires.2, c.requires.3)

pub loop-i-init : goal.loop-i-init
loop-i-init c =
    ahead (tables_of c.args.s.now) c.args.l c.args.r c.args.o c.next_op-i.result c.args.im.operations (sym (operations-many c.args.s.now c.args.im c.requires.0)) c.next_op-i.ensures

pub in_rows-requires : goal.in_rows-requires
in_rows-requires c = (c.requires.0, c.requires.1, c.requires.2, c.requires.3, c.loop-i-test.true)

pub returns-in-Some : goal.returns-in-Some
returns-in-Some c =
    ops-at (tables_of c.args.s.now) c.args.l c.args.r c.args.o c.loop-i.i c.loop-i.invariant c.in-Some.v c.in_rows.result c.first_member-from.result
    (rw (operations-many c.args.s.now c.args.im c.requires.0) c.loop-i-test.true) c.first_member-from.ensures.0 c.in-Some.is c.in_rows.ensures

pub next_op-i-requires-in-loop-i : goal.next_op-i-requires-in-loop-i
next_op-i-requires-in-loop-i c = (c.requires.0, c.requires.1, c.requires.2, c.requires.3)

pub loop-i-smaller : goal.loop-i-smaller
loop-i-smaller c =
    omega (arith, c.loop-i-test.true, (ahead (tables_of c.args.s.now) c.args.l c.args.r (c.loop-i.i + 1) c.next_op-i-in-loop-i.result c.args.im.operations (sym (operations-many c.args.s.now c.args.im c.requires.0)) c.next_op-i-in-loop-i.ensures).low)

pub loop-i-preserved : goal.loop-i-preserved
loop-i-preserved c =
    ops-next (tables_of c.args.s.now) c.args.l c.args.r c.args.o c.loop-i.i c.loop-i.invariant c.in_rows.result c.first_member-from.result c.next_op-i-in-loop-i.result
    (rw (operations-many c.args.s.now c.args.im c.requires.0) c.loop-i-test.true) c.first_member-from.ensures.0 c.in_default.is c.in_rows.ensures
    (ahead (tables_of c.args.s.now) c.args.l c.args.r (c.loop-i.i + 1) c.next_op-i-in-loop-i.result c.args.im.operations (sym (operations-many c.args.s.now c.args.im c.requires.0)) c.next_op-i-in-loop-i.ensures)

pub returns : goal.returns
returns c =
    ops-end (tables_of c.args.s.now) c.args.l c.args.r c.args.o c.loop-i.i c.loop-i.invariant (rw (operations-many c.args.s.now c.args.im c.requires.0) c.loop-i-test.false)
