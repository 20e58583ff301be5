use Rattle.terms.specs.Buffers.{part}
use Rattle.term_order.specs.CompareLaws.{times-turn, times-end, times-sum}
use Prim.Native.Nat.{◌-◌}
use native.Mathlib.Omega.{arith}
use Rattle.term_order.proofs.counted.Goals as goal

pub loop-i-init : goal.loop-i-init
loop-i-init c = (omega arith, omega arith)

pub overflow_add-n : goal.overflow_add-n
overflow_add-n c =
    let a = c.args in
    omega (arith, times-turn a.runs.now c.loop-i.i a.end (omega arith), times-sum (part a.runs.now a.from (a.end - a.from)))

pub loop-i-preserved : goal.loop-i-preserved
loop-i-preserved c =
    let a = c.args in
    (omega arith, omega (arith, times-turn a.runs.now c.loop-i.i a.end (omega arith), c.times-n.ensures))

pub returns : goal.returns
returns c =
    let a = c.args in
    omega (arith, times-end a.runs.now c.loop-i.i a.end (omega arith))
