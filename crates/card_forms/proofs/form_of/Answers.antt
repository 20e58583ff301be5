use native.Mathlib.Omega.{arith}
use Rattle.card_forms.specs.RunLaws.{pair-some, runs-rise, runs-within, runs-counted}
use Rattle.card_forms.specs.FormLaws.{as-literal, as-marked, as-list, as-proper, as-between, form-literal, form-marked, form-list, form-between}
use Rattle.card_forms.proofs.form_of.Goals as goal

pub returns-then-h-eq1 : goal.returns-then-h-eq1
returns-then-h-eq1 c =
    let a = c.args in
    (form-literal a.table.now a.terms.now a.runs.now a.m a.a c.head-h.ensures c.value.ensures c.if-h-eq1.true, as-literal a.table.now a.terms.now a.runs.now c.requires.0 a.a c.requires.1 a.m c.head-h.ensures c.value.ensures c.if-h-eq1.true)

pub returns-then-h-eq2 : goal.returns-then-h-eq2
returns-then-h-eq2 c =
    let a = c.args in
    (form-marked a.table.now a.terms.now a.runs.now a.m a.a c.head-h.ensures c.first-from.ensures.0 c.first-to.ensures.0 c.if-h-eq1.false c.if-h-eq2.true, as-marked a.table.now a.terms.now a.runs.now c.requires.0 a.a c.requires.1 c.first-from.ensures.0 c.first-to.ensures.0 c.head-h.ensures c.requires.2 a.m c.if-h-eq2.true)

pub is_pair-requires : goal.is_pair-requires
is_pair-requires c =
    let a = c.args in
    (runs-rise a.terms.now a.runs.now c.requires.0 a.a c.requires.1 c.first-from.ensures.0 c.first-to.ensures.0, runs-within a.terms.now a.runs.now c.requires.0 a.a c.requires.1 c.first-from.ensures.0 c.first-to.ensures.0, runs-counted a.terms.now a.runs.now c.requires.0 a.a c.requires.1 c.first-from.ensures.0 c.first-to.ensures.0)

pub bounds-runs-from : goal.bounds-runs-from
bounds-runs-from c =
    let a = c.args in
    omega (arith, pair-some a.terms.now a.runs.now c.requires.0 a.a c.requires.1 c.first-from.ensures.0 c.first-to.ensures.0 c.is_pair.ensures c.if-is_pair.true, runs-within a.terms.now a.runs.now c.requires.0 a.a c.requires.1 c.first-from.ensures.0 c.first-to.ensures.0)

pub overflow_sub-to : goal.overflow_sub-to
overflow_sub-to c =
    let a = c.args in
    omega (arith, pair-some a.terms.now a.runs.now c.requires.0 a.a c.requires.1 c.first-from.ensures.0 c.first-to.ensures.0 c.is_pair.ensures c.if-is_pair.true)

pub bounds-runs-to : goal.bounds-runs-to
bounds-runs-to c =
    let a = c.args in
    omega (arith, pair-some a.terms.now a.runs.now c.requires.0 a.a c.requires.1 c.first-from.ensures.0 c.first-to.ensures.0 c.is_pair.ensures c.if-is_pair.true, runs-within a.terms.now a.runs.now c.requires.0 a.a c.requires.1 c.first-from.ensures.0 c.first-to.ensures.0)

pub sign_between-requires : goal.sign_between-requires
sign_between-requires c =
    let a = c.args in
    as-proper a.table.now a.terms.now a.runs.now c.requires.0 a.a c.requires.1 c.first-from.ensures.0 c.first-to.ensures.0 c.head-h.ensures c.requires.2 c.if-h-eq1.false c.if-h-eq2.false c.size_u32-o.ensures.0

pub returns-then-is_pair : goal.returns-then-is_pair
returns-then-is_pair c =
    let a = c.args in
    (form-between a.table.now a.terms.now a.runs.now a.m a.a c.head-h.ensures c.first-from.ensures.0 c.first-to.ensures.0 c.if-h-eq1.false c.if-h-eq2.false c.is_pair.ensures c.if-is_pair.true c.child-left.ensures.0 c.child.ensures.0 c.size_u32-o.ensures.0 c.sign_between.ensures, as-between a.table.now a.terms.now a.runs.now c.requires.0 a.a c.requires.1 c.first-from.ensures.0 c.first-to.ensures.0 c.head-h.ensures c.requires.2 c.if-h-eq1.false c.if-h-eq2.false c.is_pair.ensures c.if-is_pair.true c.child-left.ensures.0 c.child.ensures.0 c.size_u32-o.ensures.0 c.sign_between.ensures)

pub returns : goal.returns
returns c =
    let a = c.args in
    (form-list a.table.now a.terms.now a.runs.now a.m a.a c.head-h.ensures c.first-from.ensures.0 c.first-to.ensures.0 c.if-h-eq1.false c.if-h-eq2.false c.is_pair.ensures c.if-is_pair.false, as-list a.table.now a.terms.now a.runs.now c.requires.0 a.a c.requires.1 c.first-from.ensures.0 c.first-to.ensures.0 c.head-h.ensures c.requires.2 c.if-h-eq1.false c.if-h-eq2.false a.m c.is_pair.ensures c.if-is_pair.false)
