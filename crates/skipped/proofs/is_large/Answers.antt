use Rattle.skipped.proofs.Sums.{counted_start, counted-more, counted-end}
use Rattle.spec.specs.Image.{tables_of}
use Rattle.image.specs.Loaded.{children-many}
use native.Mathlib.Omega.{arith}
use Rattle.skipped.proofs.is_large.Goals as goal

pub loop-k-init : goal.loop-k-init
loop-k-init c = (omega arith, counted_start (tables_of c.args.s.now), omega arith)

pub child_times-sum-requires : goal.child_times-sum-requires
child_times-sum-requires c = (c.requires.0, c.loop-k-test.true)

pub overflow_add-sum : goal.overflow_add-sum
overflow_add-sum c =
    record { fits = omega (arith, c.loop-k.invariant.0, c.loop-k.invariant.2, c.loop-k-test.true, c.child_times-sum.ensures.1, children-many c.args.s.now c.args.im c.requires.0, c.requires.1.counts.few_children) }

pub loop-k-preserved : goal.loop-k-preserved
loop-k-preserved c = (
  omega (arith, c.loop-k-test.true),
  counted-more (tables_of c.args.s.now) c.loop-k.sum c.loop-k.k c.loop-k.invariant.1 c.child_times-sum.result (rw (children-many c.args.s.now c.args.im c.requires.0) c.loop-k-test.true) c.child_times-sum.ensures.0,
  omega (arith, c.loop-k.invariant.2, c.child_times-sum.ensures.1),
)

pub returns : goal.returns
returns c =
    counted-end (tables_of c.args.s.now) c.loop-k.sum c.loop-k.k c.loop-k.invariant.1 (rw (children-many c.args.s.now c.args.im c.requires.0) c.loop-k-test.false)
