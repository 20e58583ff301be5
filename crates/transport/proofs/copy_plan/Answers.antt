use Rattle.transport.proofs.Answers.{copied_next, copied-end}
use borrow.Author.Rules.{rules}
use native.Mathlib.Omega.{arith}
use mathlib.Core.Path.{refl}
use lib.ListN.{length, length-set}
use Rattle.transport.proofs.copy_plan.Goals as goal

pub loop-k-init : goal.loop-k-init
loop-k-init c = (omega arith, refl, λ k h. absurd (omega arith))

pub offset_bounds-flow-k : goal.offset_bounds-flow-k
offset_bounds-flow-k c = let l = c.loop-k in let e = l.invariant.1 in search rules

pub bounds-flow-k : goal.bounds-flow-k
bounds-flow-k c = let l = c.loop-k in let e = l.invariant.1 in omega arith

pub overflow_cast-plan : goal.overflow_cast-plan
overflow_cast-plan c = let l = c.loop-k in let e = l.invariant.1 in record { fits = c.requires.1 l.k (omega arith) }

pub offset_bounds-plan-k : goal.offset_bounds-plan-k
offset_bounds-plan-k c = let l = c.loop-k in let e = l.invariant.1 in search rules

pub loop-k-preserved : goal.loop-k-preserved
loop-k-preserved c = let l = c.loop-k in let e = l.invariant.1 in (simp length-set (omega arith), simp length-set (omega arith), copied_next c.args.flow.now l.plan l.k (omega arith) l.invariant.2)

pub shape_of-plan : goal.shape_of-plan
shape_of-plan c = let l = c.loop-k in let e = l.invariant.1 in search rules

pub returns : goal.returns
returns c = let l = c.loop-k in let e = l.invariant.1 in copied-end c.args.flow.now l.plan (length c.args.plan.now) e c.requires.0 (λ k h. l.invariant.2 k (omega arith))
