use Rattle.card_syntax.specs.PassLaws.{pop-none, pop-first, pop-second, pop-other}
use native.Mathlib.Omega.{arith}
use Rattle.card_syntax.proofs.pop.Goals as goal

pub returns-then-n-eq0 : goal.returns-then-n-eq0
returns-then-n-eq0 c = let a = c.args in (tt, λ k S. pop-none a.frames.now a.n a.a a.b k S c.if-n-eq0.true)

pub returns-then-x-a : goal.returns-then-x-a
returns-then-x-a c = let a = c.args in (omega arith, λ k S. pop-first a.frames.now a.n a.a a.b k S c.if-n-eq0.false c.if-x-a.true)

pub returns-then-x-b : goal.returns-then-x-b
returns-then-x-b c = let a = c.args in (omega arith, λ k S. pop-second a.frames.now a.n a.a a.b k S c.if-n-eq0.false c.if-x-b.true)

pub returns : goal.returns
returns c = let a = c.args in (tt, λ k S. pop-other a.frames.now a.n a.a a.b k S c.if-n-eq0.false c.if-x-a.false c.if-x-b.false)
