use Rattle.sign_judge.specs.SignTests.{symbol-last}
use Rattle.formula.specs.Card.{symbol}
use mathlib.Core.Path.{refl}
use Rattle.sign_judge.proofs.is_symbol.Goals as goal

pub returns-then-c-eq43 : goal.returns-then-c-eq43
unfolding symbol
returns-then-c-eq43 c = rw c.if-c-eq43.true refl

pub returns-then-c-eq45 : goal.returns-then-c-eq45
unfolding symbol
returns-then-c-eq45 c = rw c.if-c-eq45.true refl

pub returns-then-c-eq42 : goal.returns-then-c-eq42
unfolding symbol
returns-then-c-eq42 c = rw c.if-c-eq42.true refl

pub returns-then-c-eq47 : goal.returns-then-c-eq47
unfolding symbol
returns-then-c-eq47 c = rw c.if-c-eq47.true refl

pub returns-then-c-eq60 : goal.returns-then-c-eq60
unfolding symbol
returns-then-c-eq60 c = rw c.if-c-eq60.true refl

pub returns : goal.returns
unfolding symbol
returns c = symbol-last c.args.c c.if-c-eq43.false c.if-c-eq45.false c.if-c-eq42.false c.if-c-eq47.false c.if-c-eq60.false
