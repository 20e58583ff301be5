use Rattle.std.proofs.Common.{rules, arith, ◌≡◌, ◌∙◌, ◌+◌, ◌*◌, sym, ap₂, nat_eq, take, drop}
use lib.Pointwise.{pointwise}
use Rattle.formula.specs.Card.{sign, same_bytes}
use Rattle.sign_judge.specs.SignTests.{sign-part, unlike-lengths, pointwise-is}
use Rattle.sign_judge.proofs.same_sign.Goals as goal

pub returns-then-sign_length-n : goal.returns-then-sign_length-n
returns-then-sign_length-n c = let a = c.args in unlike-lengths (sign a.table.now a.q) (sign a.table.now a.o) (λ e. c.if-sign_length-n.true (c.sign_length.ensures.0 ∙ e ∙ sym c.sign_length-n.ensures.0))

pub returns : goal.returns
returns c =
    let a = c.args in let t = a.table.now in let n = c.sign_length-n in let m = c.sign_length in
    let e : c.eq.result ≡ pointwise nat_eq (take n.result (drop (9 + 9 * a.q) t)) (take n.result (drop (9 + 9 * a.o) t)) = search rules in
    e ∙ pointwise-is _ _ ∙ ap₂ same_bytes (sym (sign-part t a.q n.result (omega arith) (omega (arith, m.ensures.0, c.if-sign_length-n.false)) n.ensures.1)) (sym (sign-part t a.o n.result (omega arith) n.ensures.0 n.ensures.1))
