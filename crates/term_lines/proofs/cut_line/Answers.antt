use Rattle.term_lines.proofs.Faults.{was-some, was-none, passed-on}
use Rattle.term_lines.specs.LineLaws.{line-no-number, line-there}
use Rattle.term_lines.proofs.cut_line.Goals as goal

pub returns-in_err-a : goal.returns-in_err-a
returns-in_err-a c =
    let a = c.args in
    let n = was-none _ c.in_err-a.ensures.value in
    rw (passed-on _ c.from_residual.ensures.1, n.1) (line-no-number a.k a.text.now a.at a.list.now (rw n.0 at c.cut_decimal.ensures))

pub cut_node-requires : goal.cut_node-requires
cut_node-requires c =
    let W = rw (was-some _ _ c.in_ok-a.ensures.value) at c.cut_decimal.ensures in
    (W.behind.1, c.requires.1)

pub returns : goal.returns
returns c =
    let a = c.args in
    let W = rw (was-some _ _ c.in_ok-a.ensures.value) at c.cut_decimal.ensures in
    line-there a.k a.text.now a.at _ _ W c.cut_node.ensures
