use Rattle.padding.proofs.Scans.{total-more, total-end}
use native.Mathlib.Omega.{arith}
use native.Mathlib.Numerals.{add-one}
use Rattle.padding.proofs.total.Goals as goal

pub loop-i-init : goal.loop-i-init
loop-i-init c = omega arith

pub overflow_add-sum : goal.overflow_add-sum
overflow_add-sum c =
    record { fits = omega (arith, c.requires, c.loop-i.invariant, total-more c.args.mono.now c.args.n c.loop-i.i c.count_at-sum.result c.requires.0 c.requires.1 (omega arith) c.count_at-sum.ensures) }

pub loop-i-preserved : goal.loop-i-preserved
loop-i-preserved c =
    rw add-one (omega (arith, c.loop-i.invariant, total-more c.args.mono.now c.args.n c.loop-i.i c.count_at-sum.result c.requires.0 c.requires.1 (omega arith) c.count_at-sum.ensures))

pub returns : goal.returns
returns c =
    omega (arith, c.loop-i.invariant, total-end c.args.mono.now c.args.n c.loop-i.i c.requires.0 c.requires.1 (omega arith))
