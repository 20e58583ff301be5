use native.Mathlib.Omega.{arith}
use mathlib.Core.Path.{◌≡◌, refl, sym, ◌∙◌}
use mathlib.Core.List.{[], ◌∷◌}
use lib.ListN.{drop}
use Rattle.term_lines.specs.RunLaws.{staging-start, staging-end, staging-no-child, staging-no-count, staging-full, staging-turn}
use mathlib.Core.Bool.{false}
use Rattle.formula.specs.Lexer.{starts_with}
use Rattle.term_lines.proofs.Faults.{was-some, was-none, passed-on}
use Rattle.term_lines.proofs.cut_runs.Goals as goal

pub loop-at0-init : goal.loop-at0-init
loop-at0-init c =
    let a = c.args in
    staging-start a.text.now a.at0 a.k a.list.now c.requires.0

pub returns-then-starts_with : goal.returns-then-starts_with
returns-then-starts_with c =
    let a = c.args in
    let l = c.loop-at0 in
    staging-end a.text.now a.at0 a.k a.list.now l.list l.at l.n l.last l.left l.invariant _ (sym c.if-starts_with.true ∙ c.starts_with.ensures) refl

pub returns-in_err-child : goal.returns-in_err-child
returns-in_err-child c =
    let a = c.args in
    let l = c.loop-at0 in
    let no : starts_with (10 ∷ []) (drop l.at a.text.now) ≡ false = sym c.starts_with.ensures ∙ c.if-starts_with.false in
    let n = was-none _ c.in_err-child.ensures.value in
    rw (passed-on _ c.from_residual.ensures.1, n.1) (staging-no-child a.text.now a.at0 a.k a.list.now l.list l.at l.n l.last l.left l.invariant no (rw n.0 at c.cut_child.ensures))

pub cut_count-requires : goal.cut_count-requires
cut_count-requires c =
    let C = rw (was-some _ _ c.in_ok-child.ensures.value) at c.cut_child.ensures in
    (C.behind.1, omega (arith, c.loop-at0.invariant.counts))

pub returns-in_err-count : goal.returns-in_err-count
returns-in_err-count c =
    let a = c.args in
    let l = c.loop-at0 in
    let no : starts_with (10 ∷ []) (drop l.at a.text.now) ≡ false = sym c.starts_with.ensures ∙ c.if-starts_with.false in
    let C = rw (was-some _ _ c.in_ok-child.ensures.value) at c.cut_child.ensures in
    let n = was-none _ c.in_err-count.ensures.value in
    rw (passed-on _ c.from_residual-in_err-count.ensures.1, n.1) (staging-no-count a.text.now a.at0 a.k a.list.now l.list l.at l.n l.last l.left l.invariant no C (rw n.0 at c.cut_count.ensures))

pub returns-then-n-eq65536 : goal.returns-then-n-eq65536
returns-then-n-eq65536 c =
    let a = c.args in
    let l = c.loop-at0 in
    let no : starts_with (10 ∷ []) (drop l.at a.text.now) ≡ false = sym c.starts_with.ensures ∙ c.if-starts_with.false in
    let C = rw (was-some _ _ c.in_ok-child.ensures.value) at c.cut_child.ensures in
    let M = rw (was-some _ _ c.in_ok-count.ensures.value) at c.cut_count.ensures in
    staging-full a.text.now a.at0 a.k a.list.now l.list l.at l.n l.last l.left l.invariant no C M c.if-n-eq65536.true

pub overflow_mul-count : goal.overflow_mul-count
overflow_mul-count c =
    let M = rw (was-some _ _ c.in_ok-count.ensures.value) at c.cut_count.ensures in
    omega (arith, M.behind.2, c.loop-at0.invariant.counts)

pub overflow_add-count : goal.overflow_add-count
overflow_add-count c =
    let C = rw (was-some _ _ c.in_ok-child.ensures.value) at c.cut_child.ensures in
    let M = rw (was-some _ _ c.in_ok-count.ensures.value) at c.cut_count.ensures in
    omega (arith, M.behind.2, c.loop-at0.invariant.counts, C.behind.2)

pub overflow_sub-left : goal.overflow_sub-left
overflow_sub-left c =
    let M = rw (was-some _ _ c.in_ok-count.ensures.value) at c.cut_count.ensures in
    omega (arith, M.behind.2)

pub loop-at0-smaller : goal.loop-at0-smaller
loop-at0-smaller c =
    let C = rw (was-some _ _ c.in_ok-child.ensures.value) at c.cut_child.ensures in
    let M = rw (was-some _ _ c.in_ok-count.ensures.value) at c.cut_count.ensures in
    omega (arith, C.behind, M.behind)

pub loop-at0-preserved : goal.loop-at0-preserved
loop-at0-preserved c =
    let a = c.args in
    let l = c.loop-at0 in
    let no : starts_with (10 ∷ []) (drop l.at a.text.now) ≡ false = sym c.starts_with.ensures ∙ c.if-starts_with.false in
    let C = rw (was-some _ _ c.in_ok-child.ensures.value) at c.cut_child.ensures in
    let M = rw (was-some _ _ c.in_ok-count.ensures.value) at c.cut_count.ensures in
    staging-turn a.text.now a.at0 a.k a.list.now l.list l.at l.n l.last l.left l.invariant no C M (omega (arith, c.if-n-eq65536.false, l.invariant.few)) c.requires.1 c.long_size.ensures c.put_u64.ensures
