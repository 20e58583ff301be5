use native.Mathlib.Omega.{arith}
use Rattle.spec.specs.Bytes.{text}
use Rattle.term_lines.specs.RunLaws.{child-no-space, child-no-number, child-later, child-again, child-there}
use Rattle.term_lines.proofs.cut_child.Goals as goal

pub returns-in_err-a : goal.returns-in_err-a
unfolding text
returns-in_err-a c =
    let a = c.args in
    rw c.from_residual.ensures (child-no-space a.k a.last a.text.now a.at c.in_err-a.ensures)

pub cut_number-requires : goal.cut_number-requires
unfolding text
cut_number-requires c = omega (arith, c.in_ok-a.ensures.behind.1)

pub returns-in_err-child : goal.returns-in_err-child
unfolding text
returns-in_err-child c =
    let a = c.args in
    rw c.from_residual-in_err-child.ensures (child-no-number a.k a.last a.text.now a.at c.in_ok-a.ensures c.in_err-child.ensures)

pub returns-then-child-k : goal.returns-then-child-k
unfolding text
returns-then-child-k c =
    let a = c.args in
    child-later a.k a.last a.text.now a.at c.in_ok-a.ensures c.in_ok-child.ensures (omega (arith, c.if-child-k.true))

pub returns-then-child-last : goal.returns-then-child-last
unfolding text
returns-then-child-last c =
    let a = c.args in
    child-again a.k a.last a.text.now a.at c.in_ok-a.ensures c.in_ok-child.ensures (omega (arith, c.if-child-k.false)) c.if-child-last.true

pub returns : goal.returns
unfolding text
returns c =
    let a = c.args in
    child-there a.k a.last a.text.now a.at c.in_ok-a.ensures c.in_ok-child.ensures (omega (arith, c.if-child-k.false)) c.if-child-last.false
