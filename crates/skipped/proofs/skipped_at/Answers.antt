use Rattle.skipped.proofs.Sums.{upto-start, upto-rises, upto-more, upto-end, self-none}
use Rattle.spec.specs.Image.{tables_of}
use Rattle.image.specs.Loaded.{operations-many}
use native.Mathlib.Omega.{arith}
use mathlib.Core.Path.{sym}
use Rattle.skipped.proofs.skipped_at.Goals as goal

pub returns-then-l-r : goal.returns-then-l-r
returns-then-l-r c = self-none (tables_of c.args.s.now) c.args.l c.args.r c.if-l-r.true

pub next_op-o-requires : goal.next_op-o-requires
next_op-o-requires c = (c.requires.0, c.requires.1, c.requires.2, c.requires.3)

pub loop-o-init : goal.loop-o-init
loop-o-init c =
    upto-start (tables_of c.args.s.now) c.args.l c.args.r c.args.im.operations c.next_op-o.result (sym (operations-many c.args.s.now c.args.im c.requires.0)) c.next_op-o.ensures

pub skipped_under-sum-requires : goal.skipped_under-sum-requires
skipped_under-sum-requires c = (c.requires.0, c.requires.1, c.requires.2, c.requires.3, c.loop-o-test.true)

pub overflow_add-sum : goal.overflow_add-sum
overflow_add-sum c =
    record { fits = omega (arith, c.loop-o.invariant, c.loop-o-test.true, c.skipped_under-sum.ensures.1, operations-many c.args.s.now c.args.im c.requires.0, c.requires.1.counts.few_operations) }

pub next_op-o-requires-in-loop-o : goal.next_op-o-requires-in-loop-o
next_op-o-requires-in-loop-o c = (c.requires.0, c.requires.1, c.requires.2, c.requires.3)

pub loop-o-smaller : goal.loop-o-smaller
loop-o-smaller c =
    omega (arith, c.loop-o-test.true, upto-rises (tables_of c.args.s.now) c.args.l c.args.r c.args.im.operations c.loop-o.o c.loop-o.sum c.loop-o.invariant c.loop-o-test.true c.next_op-o-in-loop-o.result c.next_op-o-in-loop-o.ensures)

pub loop-o-preserved : goal.loop-o-preserved
loop-o-preserved c =
    upto-more (tables_of c.args.s.now) c.args.l c.args.r c.args.im.operations c.loop-o.o c.loop-o.sum c.loop-o.invariant c.loop-o-test.true c.next_op-o-in-loop-o.result c.next_op-o-in-loop-o.ensures c.skipped_under-sum.result c.skipped_under-sum.ensures.0 c.skipped_under-sum.ensures.1

pub returns : goal.returns
returns c =
    upto-end (tables_of c.args.s.now) c.args.l c.args.r c.args.im.operations c.loop-o.o c.loop-o.sum c.loop-o.invariant c.loop-o-test.false c.if-l-r.false
