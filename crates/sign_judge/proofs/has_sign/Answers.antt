use Rattle.sign_judge.specs.SignTests.{not-padded, no_byte, by-letters, not-one, by-symbol}
use mathlib.Core.Path.{sym, ◌∙◌}
use Rattle.sign_judge.proofs.has_sign.Goals as goal

pub returns-then-not-are_zero : goal.returns-then-not-are_zero
returns-then-not-are_zero c =
    let a = c.args in let n = c.sign_length-n in
    not-padded a.table.now a.o n.result c.requires n.ensures.0 n.ensures.1 (sym c.if-not-are_zero.true ∙ c.are_zero.ensures)

pub returns-then-n-eq0 : goal.returns-then-n-eq0
returns-then-n-eq0 c =
    let a = c.args in let n = c.sign_length-n in
    no_byte a.table.now a.o n.result c.requires n.ensures.0 n.ensures.1 (sym c.if-not-are_zero.false ∙ c.are_zero.ensures) c.if-n-eq0.true

pub returns-then-are_letters : goal.returns-then-are_letters
returns-then-are_letters c =
    let a = c.args in let n = c.sign_length-n in
    by-letters a.table.now a.o n.result c.requires n.ensures.0 n.ensures.1 (sym c.if-not-are_zero.false ∙ c.are_zero.ensures) c.if-n-eq0.false (sym c.if-are_letters.true ∙ c.are_letters.ensures)

pub returns-then-n-ne1 : goal.returns-then-n-ne1
returns-then-n-ne1 c =
    let a = c.args in let n = c.sign_length-n in
    not-one a.table.now a.o n.result c.requires n.ensures.0 n.ensures.1 (sym c.if-not-are_zero.false ∙ c.are_zero.ensures) (sym c.if-are_letters.false ∙ c.are_letters.ensures) c.if-n-eq0.false c.if-n-ne1.true

pub returns : goal.returns
returns c =
    let a = c.args in let n = c.sign_length-n in
    c.is_symbol.ensures ∙ by-symbol a.table.now a.o n.result c.requires n.ensures.0 n.ensures.1 (sym c.if-not-are_zero.false ∙ c.are_zero.ensures) (sym c.if-are_letters.false ∙ c.are_letters.ensures) c.if-n-ne1.false
