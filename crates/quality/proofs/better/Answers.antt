use mathlib.Core.Path.{refl}
use native.Mathlib.Omega.{arith}
use borrow.Author.Tests.{lt-ltb, le-ltb, eq-eqb, ne_eqb}
use Rattle.quality.proofs.better.Goals as goal

pub returns-then-size-b : goal.returns-then-size-b
returns-then-size-b c = rw (lt-ltb _ _ c.if-size-b.true) refl

pub returns-then-b-size : goal.returns-then-b-size
returns-then-b-size c = let a = c.args in rw (le-ltb a.size a.b.size (omega arith), ne_eqb a.size a.b.size (omega arith)) refl

pub returns : goal.returns
returns c = let a = c.args in rw (le-ltb a.size a.b.size (omega arith), eq-eqb a.size a.b.size (omega arith)) refl
