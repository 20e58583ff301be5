use native.Mathlib.Omega.{arith}
use Rattle.spec.specs.Bytes.{text}
use Rattle.term_lines.specs.RunLaws.{count-no-colon, count-no-number, count_none, count-there}
use Rattle.term_lines.proofs.cut_count.Goals as goal

pub returns-in_err-a : goal.returns-in_err-a
unfolding text
returns-in_err-a c =
    let a = c.args in
    rw c.from_residual.ensures (count-no-colon a.left a.text.now a.at c.in_err-a.ensures)

pub cut_number-requires : goal.cut_number-requires
unfolding text
cut_number-requires c = omega (arith, c.in_ok-a.ensures.behind.1)

pub returns-in_err-n : goal.returns-in_err-n
unfolding text
returns-in_err-n c =
    let a = c.args in
    rw c.from_residual-in_err-n.ensures (count-no-number a.left a.text.now a.at c.in_ok-a.ensures c.in_err-n.ensures)

pub returns-then-n-eq0 : goal.returns-then-n-eq0
unfolding text
returns-then-n-eq0 c =
    let a = c.args in
    count_none a.left a.text.now a.at c.in_ok-a.ensures c.in_ok-n.ensures c.if-n-eq0.true

pub returns : goal.returns
unfolding text
returns c =
    let a = c.args in
    count-there a.left a.text.now a.at c.in_ok-a.ensures c.in_ok-n.ensures (omega (arith, c.if-n-eq0.false))
