use Rattle.interning.specs.SameLaws.{sub_same, not-head, not-value, not-length, as-runs}
use Rattle.terms.specs.PoolLaws.{runs-inside}
use native.Mathlib.Omega.{arith}
use mathlib.Core.Path.{sym, ◌∙◌}
use Rattle.interning.proofs.is_term.Goals as goal

pub returns-then-head-h : goal.returns-then-head-h
returns-then-head-h c =
    let a = c.args in
    not-head a.terms.now a.runs.now a.t a.list.now a.n a.h a.v (λ e. c.if-head-h.true (c.head.ensures ∙ e))

pub returns-then-value-v : goal.returns-then-value-v
returns-then-value-v c =
    let a = c.args in
    not-value a.terms.now a.runs.now a.t a.list.now a.n a.h a.v (λ e. c.if-value-v.true (c.value.ensures ∙ e))

pub overflow_sub-first : goal.overflow_sub-first
overflow_sub-first c =
    omega (arith, c.requires.0.rises c.args.t c.requires.1)

pub returns-then-first-from : goal.returns-then-first-from
returns-then-first-from c =
    let a = c.args in
    not-length a.terms.now a.runs.now a.t a.list.now a.n a.h a.v (λ e. c.if-first-from.true (sub_same c.first.ensures.0 c.first-from.ensures.0 ∙ e))

pub same_runs-requires : goal.same_runs-requires
same_runs-requires c =
    let f = runs-inside c.args.terms.now c.args.runs.now c.requires.0 c.args.t c.requires.1 in
    (omega (arith, c.first.ensures.0, c.first-from.ensures.0, c.if-first-from.false), c.requires.2)

pub returns : goal.returns
returns c =
    let a = c.args in
    as-runs a.terms.now a.runs.now a.t a.list.now a.n a.h a.v c.same_runs.result (sym c.head.ensures ∙ c.if-head-h.false) (sym c.value.ensures ∙ c.if-value-v.false) (sym (sub_same c.first.ensures.0 c.first-from.ensures.0) ∙ c.if-first-from.false) (rw c.first-from.ensures.0 at c.same_runs.ensures)
