use borrow.Author.Tests.{eq-eqb, ne_eqb}
use mathlib.Core.Path.{refl, sym, ◌∙◌}
use Rattle.sign_judge.proofs.is_shared.Goals as goal

pub returns-then-q-o : goal.returns-then-q-o
returns-then-q-o c = rw (eq-eqb _ _ c.if-q-o.true) refl

pub returns-then-not-has_sign : goal.returns-then-not-has_sign
returns-then-not-has_sign c =
    let a = c.args in
    rw (ne_eqb a.q a.o c.if-q-o.false, sym c.has_sign.ensures ∙ c.if-not-has_sign.true) refl

pub returns : goal.returns
returns c =
    let a = c.args in
    rw (ne_eqb a.q a.o c.if-q-o.false, sym c.has_sign.ensures ∙ c.if-not-has_sign.false) c.same_sign.ensures
