use Rattle.transport.proofs.Totals.{product-fits, summed-start, summed_turn, summed-end}
use Prim.Native.Nat.{◌*◌}
use native.Mathlib.Omega.{arith}
use mathlib.Core.Path.{◌∙◌}
use lib.ListN.{length}
use Rattle.transport.proofs.plan_total.Goals as goal

pub loop-i-init : goal.loop-i-init
loop-i-init c = let a = c.args in (omega arith, summed-start a.plan.now a.per.now a.allowed.now (length a.plan.now))

pub overflow_mul-x : goal.overflow_mul-x
overflow_mul-x c = record { fits = product-fits c.long_u32.result c.long_u32-in-loop-i.result c.long_u32.ensures.1 c.long_u32-in-loop-i.ensures.1 }

pub loop-i-preserved : goal.loop-i-preserved
loop-i-preserved c =
    let a = c.args in
    let l = c.loop-i in
    let h = product-fits c.long_u32.result c.long_u32-in-loop-i.result c.long_u32.ensures.1 c.long_u32-in-loop-i.ensures.1 in
    (omega arith, rw c.wrapping_add-t.ensures (summed_turn a.plan.now a.per.now a.allowed.now (length a.plan.now) l.i l.t (c.long_u32.result * c.long_u32-in-loop-i.result) (omega arith) c.requires.2 h (λ i. c.long_u32.ensures.0 i * (c.long_u32-in-loop-i.ensures.0 ∙ c.if_allowed.ensures) i) l.invariant.1))

pub returns : goal.returns
returns c = let a = c.args in let l = c.loop-i in summed-end a.plan.now a.per.now a.allowed.now (length a.plan.now) l.i l.t (omega arith) l.invariant.1
