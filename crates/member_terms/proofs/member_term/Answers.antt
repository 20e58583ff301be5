use Rattle.spec.specs.Image.{tables_of, the_member}
use Rattle.op_terms.specs.MemberRuns.{member-literal, member-operation}
use native.Mathlib.Omega.{arith}
use mathlib.Core.Path.{sym, ◌∙◌}
use Rattle.member_terms.proofs.member_term.Goals as goal

pub lit_term-requires : goal.lit_term-requires
lit_term-requires c =
    let a = c.args in
    (c.requires.0, omega (arith, c.member_op-op.ensures.0, c.requires.3, c.requires.4), c.member_value-v.ensures.1, c.requires.6)

pub returns-then-k-eq-LIT : goal.returns-then-k-eq-LIT
returns-then-k-eq-LIT c =
    let a = c.args in
    let o = c.member_op-op.ensures.0 in
    rw (← member-literal (tables_of a.s.now) a.best.now (the_member (tables_of a.s.now) a.m) c.member_op-op.result c.member_value-v.result o c.member_value-v.ensures.0 (rw o at (sym c.kind-k.ensures.0) ∙ c.if-k-eq-LIT.true)) c.lit_term.ensures

pub op_term-requires : goal.op_term-requires
op_term-requires c =
    let a = c.args in
    (c.requires.0, c.requires.1, c.requires.2, omega (arith, c.member_op-op.ensures.0, c.requires.3, c.requires.4), c.requires.5, c.requires.6)

pub returns : goal.returns
returns c =
    let a = c.args in
    let o = c.member_op-op.ensures.0 in
    rw (← member-operation (tables_of a.s.now) a.best.now (the_member (tables_of a.s.now) a.m) c.member_op-op.result o (λ e. c.if-k-eq-LIT.false (c.kind-k.ensures.0 ∙ rw o e))) c.op_term.ensures
