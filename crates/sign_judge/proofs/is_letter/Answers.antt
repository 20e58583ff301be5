use Rattle.sign_judge.specs.SignTests.{letter-low, letter-upper, letter-between, letter-lower}
use native.Mathlib.Omega.{arith}
use Rattle.sign_judge.proofs.is_letter.Goals as goal

pub returns-then-c-lt65 : goal.returns-then-c-lt65
returns-then-c-lt65 c = letter-low c.args.c c.if-c-lt65.true

pub returns-then-c-le90 : goal.returns-then-c-le90
returns-then-c-le90 c = letter-upper c.args.c (omega arith) c.if-c-le90.true

pub returns-then-c-lt97 : goal.returns-then-c-lt97
returns-then-c-lt97 c = letter-between c.args.c (omega arith) c.if-c-lt97.true

pub returns : goal.returns
returns c = letter-lower c.args.c (omega arith)
