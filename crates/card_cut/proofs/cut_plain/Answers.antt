use Rattle.card_cut.specs.PlainLaws.{opens-there, shuts-there, close-there, begin-there, end-there, no-mark}
use native.Mathlib.Omega.{arith}
use Rattle.card_cut.proofs.cut_plain.Goals as goal

pub returns-in-40 : goal.returns-in-40
returns-in-40 c = λ t. opens-there t c.args.text.now c.args.at c.requires.0 c.in-40.is

pub returns-in-41 : goal.returns-in-41
returns-in-41 c = λ t. shuts-there t c.args.text.now c.args.at c.requires.0 c.in-41.is

pub returns-in-93 : goal.returns-in-93
returns-in-93 c = λ t. close-there t c.args.text.now c.args.at c.requires.0 c.in-93.is

pub returns-in-123 : goal.returns-in-123
returns-in-123 c = λ t. begin-there t c.args.text.now c.args.at c.requires.0 c.in-123.is

pub returns-in-125 : goal.returns-in-125
returns-in-125 c = λ t. end-there t c.args.text.now c.args.at c.requires.0 c.in-125.is

pub returns-in_default : goal.returns-in_default
returns-in_default c = λ t. no-mark t c.args.text.now c.args.at c.requires.0 c.requires.1 c.requires.2 c.requires.3 (λ e. omega arith) (λ e. omega arith) (λ e. omega arith) (λ e. omega arith) (λ e. omega arith) (λ e. omega arith)
