use Rattle.ac_ops.specs.AcOps.{any-stop, any-more, any-end, span-within, span-members, span-rises, span-any}
use Rattle.spec.specs.Image.{tables_of}
use native.Mathlib.Omega.{arith}
use native.Mathlib.Numerals.{add-one}
use mathlib.Core.Path.{sym, ◌∙◌}
use Rattle.ac_ops.proofs.has_op.Goals as goal

pub members_of-span-requires : goal.members_of-span-requires
members_of-span-requires c = (c.requires.0, c.requires.2)

pub loop-i-init : goal.loop-i-init
loop-i-init c =
    (span-rises c.args.s.now c.args.im c.args.c c.members_of-span.result c.requires.0 c.requires.1 c.requires.2 c.members_of-span.ensures.0, span-any c.args.s.now c.args.im c.args.c c.members_of-span.result c.requires.0 c.requires.1 c.requires.2 c.members_of-span.ensures.0 c.args.op)

pub member_op-requires : goal.member_op-requires
member_op-requires c =
    (c.requires.0, omega (arith, span-members c.args.s.now c.args.im c.args.c c.members_of-span.result c.requires.0 c.requires.1 c.requires.2 c.members_of-span.ensures.0, c.loop-i-test.true))

pub returns-then-member_op-op : goal.returns-then-member_op-op
returns-then-member_op-op c =
    sym (any-stop (tables_of c.args.s.now) c.args.op c.loop-i.i c.members_of-span.result.to c.member_op.result c.loop-i-test.true (span-within c.args.s.now c.args.im c.args.c c.members_of-span.result c.requires.0 c.requires.1 c.requires.2 c.members_of-span.ensures.0) c.member_op.ensures.0 c.if-member_op-op.true) ∙ c.loop-i.invariant.1

pub loop-i-preserved : goal.loop-i-preserved
loop-i-preserved c = (
  omega (arith, c.loop-i-test.true),
  rw add-one (sym (any-more (tables_of c.args.s.now) c.args.op c.loop-i.i c.members_of-span.result.to c.member_op.result c.loop-i-test.true (span-within c.args.s.now c.args.im c.args.c c.members_of-span.result c.requires.0 c.requires.1 c.requires.2 c.members_of-span.ensures.0) c.member_op.ensures.0 c.if-member_op-op.false) ∙ c.loop-i.invariant.1),
)

pub returns : goal.returns
returns c =
    sym (any-end (tables_of c.args.s.now) c.args.op c.loop-i.i c.members_of-span.result.to c.loop-i.invariant.0 c.loop-i-test.false) ∙ c.loop-i.invariant.1
