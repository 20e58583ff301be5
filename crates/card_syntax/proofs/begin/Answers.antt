use Rattle.formula_laws.specs.Syntax.{begins, aBracket, items, choices}
use Rattle.card_syntax.specs.PassLaws.{pushed}
use native.Mathlib.Omega.{arith}
use mathlib.Core.Path.{refl}
use mathlib.Core.List.{◌∷◌}
use Rattle.card_syntax.proofs.begin.Goals as goal

pub returns-in-Literal : goal.returns-in-Literal
unfolding begins
returns-in-Literal c = (omega arith, λ k S. (k, rw c.in-Literal.is refl, S))

pub returns-in-Between : goal.returns-in-Between
unfolding begins
returns-in-Between c = (tt, λ k S. rw c.in-Between.is refl)

pub returns-in-List : goal.returns-in-List
unfolding begins
returns-in-List c = let a = c.args in (omega arith, λ k S. (k, rw c.in-List.is refl, rw c.put_u64.ensures (pushed a.frames.now a.n 1 (items 0) k c.requires refl S)))

pub returns-in-Next : goal.returns-in-Next
unfolding begins
returns-in-Next c = (tt, λ k S. rw c.in-Next.is refl)

pub returns-in-Close : goal.returns-in-Close
unfolding begins
returns-in-Close c = (tt, λ k S. rw c.in-Close.is refl)

pub returns-in-Opens : goal.returns-in-Opens
unfolding begins
returns-in-Opens c = let a = c.args in (omega arith, λ k S. (aBracket ∷ k, rw c.in-Opens.is refl, rw c.put_u64-in-Opens.ensures (pushed a.frames.now a.n 0 aBracket k c.requires refl S)))

pub returns-in-Shuts : goal.returns-in-Shuts
unfolding begins
returns-in-Shuts c = (tt, λ k S. rw c.in-Shuts.is refl)

pub returns-in-Begin : goal.returns-in-Begin
unfolding begins
returns-in-Begin c = let a = c.args in (omega arith, λ k S. (choices 0 ∷ k, rw c.in-Begin.is refl, rw c.put_u64-in-Begin.ensures (pushed a.frames.now a.n 4 (choices 0) k c.requires refl S)))

pub returns-in-Or : goal.returns-in-Or
unfolding begins
returns-in-Or c = (tt, λ k S. rw c.in-Or.is refl)

pub returns-in-End : goal.returns-in-End
unfolding begins
returns-in-End c = (tt, λ k S. rw c.in-End.is refl)
