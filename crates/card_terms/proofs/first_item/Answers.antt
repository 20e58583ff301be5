use Rattle.card_terms.specs.CloseLaws.{scan-start, scan-some, scan-turn, scan-end}
use native.Mathlib.Omega.{arith}
use Rattle.card_terms.proofs.first_item.Goals as goal

pub loop-i-init : goal.loop-i-init
loop-i-init c = scan-start c.args.frames.now c.args.top c.requires.1

pub overflow_sub-i : goal.overflow_sub-i
overflow_sub-i c = omega (arith, scan-some c.args.frames.now c.args.top c.loop-i.i c.loop-i.invariant)

pub bounds-frames-i : goal.bounds-frames-i
bounds-frames-i c = omega (arith, scan-some c.args.frames.now c.args.top c.loop-i.i c.loop-i.invariant)

pub overflow_sub-i-in-loop-i : goal.overflow_sub-i-in-loop-i
overflow_sub-i-in-loop-i c = omega (arith, scan-some c.args.frames.now c.args.top c.loop-i.i c.loop-i.invariant)

pub loop-i-smaller : goal.loop-i-smaller
loop-i-smaller c = omega (arith, scan-some c.args.frames.now c.args.top c.loop-i.i c.loop-i.invariant)

pub loop-i-preserved : goal.loop-i-preserved
loop-i-preserved c = scan-turn c.args.frames.now c.args.top c.loop-i.i c.loop-i.invariant c.loop-i-test.true

pub returns : goal.returns
returns c = scan-end c.args.frames.now c.args.top c.loop-i.i c.loop-i.invariant (omega (arith, c.loop-i-test.false))
