use mathlib.Core.Logic.{inl, inr}
use Rattle.formula_laws.specs.Syntax.{follows}
use Rattle.card_syntax.specs.PassLaws.{pop-close, pop-shut, pop-end, count_next, count-or, room-more}
use native.Mathlib.Omega.{arith}
use mathlib.Core.Path.{refl}
use Rattle.card_syntax.proofs.follow.Goals as goal

pub count-requires : goal.count-requires
count-requires c = (omega arith, inl refl)

pub count-requires-in-Or : goal.count-requires-in-Or
count-requires-in-Or c = (omega arith, inr refl)

pub returns-in-Literal : goal.returns-in-Literal
unfolding follows
returns-in-Literal c = (tt, λ k S. rw c.in-Literal.is refl)

pub returns-in-Between : goal.returns-in-Between
unfolding follows
returns-in-Between c = (omega arith, λ k S. (k, rw c.in-Between.is refl, S))

pub returns-in-List : goal.returns-in-List
unfolding follows
returns-in-List c = (tt, λ k S. rw c.in-List.is refl)

pub returns-in-Next : goal.returns-in-Next
unfolding follows
returns-in-Next c = let r = c.count in (room-more r.result (omega arith) r.ensures.0, λ k S. rw (c.in-Next.is, ← (count_next k)) (r.ensures.1 k S))

pub returns-in-Close : goal.returns-in-Close
unfolding follows
returns-in-Close c = (room-more c.pop.result (omega arith) c.pop.ensures.0, λ k S. rw (c.in-Close.is, ← (pop-close k)) (c.pop.ensures.1 k S))

pub returns-in-Opens : goal.returns-in-Opens
unfolding follows
returns-in-Opens c = (tt, λ k S. rw c.in-Opens.is refl)

pub returns-in-Shuts : goal.returns-in-Shuts
unfolding follows
returns-in-Shuts c = (room-more c.pop-in-Shuts.result (omega arith) c.pop-in-Shuts.ensures.0, λ k S. rw (c.in-Shuts.is, ← (pop-shut k)) (c.pop-in-Shuts.ensures.1 k S))

pub returns-in-Begin : goal.returns-in-Begin
unfolding follows
returns-in-Begin c = (tt, λ k S. rw c.in-Begin.is refl)

pub returns-in-Or : goal.returns-in-Or
unfolding follows
returns-in-Or c = let r = c.count-in-Or in (room-more r.result (omega arith) r.ensures.0, λ k S. rw (c.in-Or.is, ← (count-or k)) (r.ensures.1 k S))

pub returns-in-End : goal.returns-in-End
unfolding follows
returns-in-End c = (room-more c.pop-in-End.result (omega arith) c.pop-in-End.ensures.0, λ k S. rw (c.in-End.is, ← (pop-end k)) (c.pop-in-End.ensures.1 k S))
