use Rattle.card_cut.specs.Cutting.{mark_of}
use Rattle.card_syntax.specs.Passing.{Room}
use Rattle.card_syntax.specs.PassLaws.{step-closes, step-freshly, step-begins, step_follows, step-fails}
use Rattle.card_syntax.specs.declared.Pass.TheVariants as P
use native.Mathlib.Omega.{arith}
use mathlib.Core.Path.{sym, ◌∙◌}
use Rattle.card_syntax.proofs.step.Goals as goal

pub overflow_sub-result : goal.overflow_sub-result
overflow_sub-result c = let r : Room _ (P.Fresh _) = rw c.in-Fresh.is at c.requires in omega (arith, r)

pub returns-then-is_close : goal.returns-then-is_close
returns-then-is_close c = let a = c.args in let e = c.in-Fresh.is in (rw e (omega arith), λ u X. step-closes a.frames.now c.in-Fresh.n (mark_of a.m) (sym c.if-is_close.true ∙ c.is_close.ensures) u (rw e at X))

pub begin-requires : goal.begin-requires
begin-requires c = (rw c.in-Fresh.is at c.requires).1

pub begin-requires-in-Wanted : goal.begin-requires-in-Wanted
begin-requires-in-Wanted c = rw c.in-Wanted.is at c.requires

pub follow-requires : goal.follow-requires
follow-requires c = omega (arith, rw c.in-Done.is at c.requires)

pub returns-else-is_close : goal.returns-else-is_close
returns-else-is_close c = let a = c.args in let e = c.in-Fresh.is in let r = c.begin in (rw e r.ensures.0, λ u X. step-freshly a.frames.now c.in-Fresh.n (mark_of a.m) r.new.frames r.result (sym c.if-is_close.false ∙ c.is_close.ensures) r.ensures.1 u (rw e at X))

pub returns-in-Wanted : goal.returns-in-Wanted
returns-in-Wanted c = let a = c.args in let e = c.in-Wanted.is in let r = c.begin-in-Wanted in (rw e r.ensures.0, λ u X. step-begins a.frames.now c.in-Wanted.n (mark_of a.m) r.new.frames r.result r.ensures.1 u (rw e at X))

pub returns-in-Done : goal.returns-in-Done
returns-in-Done c = let a = c.args in let e = c.in-Done.is in let r = c.follow in (rw e r.ensures.0, λ u X. step_follows a.frames.now c.in-Done.n (mark_of a.m) r.new.frames r.result r.ensures.1 u (rw e at X))

pub returns-in-Failed : goal.returns-in-Failed
returns-in-Failed c = (tt, λ u X. step-fails u (mark_of c.args.m) (rw c.in-Failed.is at X))
