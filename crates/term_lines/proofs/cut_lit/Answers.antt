use native.Mathlib.Omega.{arith}
use Rattle.spec.specs.Bytes.{text}
use Rattle.term_lines.proofs.Faults.{was-some, was-none, passed-on}
use Rattle.term_lines.specs.LineLaws.{lit-no-operation, lit-no-space, lit-no-value, lit-no-end, lit-there}
use Rattle.term_lines.proofs.cut_lit.Goals as goal

pub returns-in_err-o : goal.returns-in_err-o
returns-in_err-o c =
    let a = c.args in
    let n = was-none _ c.in_err-o.ensures.value in
    λ l. rw (passed-on _ c.from_residual.ensures.1, n.1) (lit-no-operation a.text.now a.at l (rw n.0 at c.cut_number.ensures))

pub cut_word-requires : goal.cut_word-requires
cut_word-requires c =
    let O = rw (was-some _ _ c.in_ok-o.ensures.value) at c.cut_number.ensures in
    O.behind.1

pub returns-in_err-b : goal.returns-in_err-b
unfolding text
returns-in_err-b c =
    let a = c.args in
    let n = was-none _ c.in_err-b.ensures.value in
    let O = rw (was-some _ _ c.in_ok-o.ensures.value) at c.cut_number.ensures in
    λ l. rw (passed-on _ c.from_residual-in_err-b.ensures.1, n.1) (lit-no-space a.text.now a.at l O (rw n.0 at c.cut_word.ensures))

pub cut_number-requires-2 : goal.cut_number-requires-2
unfolding text
cut_number-requires-2 c =
    let W = rw (was-some _ _ c.in_ok-b.ensures.value) at c.cut_word.ensures in
    (W.behind.1, omega arith)

pub returns-in_err-v : goal.returns-in_err-v
unfolding text
returns-in_err-v c =
    let a = c.args in
    let n = was-none _ c.in_err-v.ensures.value in
    let O = rw (was-some _ _ c.in_ok-o.ensures.value) at c.cut_number.ensures in
    let W = rw (was-some _ _ c.in_ok-b.ensures.value) at c.cut_word.ensures in
    λ l. rw (passed-on _ c.from_residual-in_err-v.ensures.1, n.1) (lit-no-value a.text.now a.at l O W (rw n.0 at c.cut_number-2.ensures))

pub cut_word-requires-2 : goal.cut_word-requires-2
cut_word-requires-2 c =
    let X = rw (was-some _ _ c.in_ok-v.ensures.value) at c.cut_number-2.ensures in
    X.behind.1

pub returns-in_err-e : goal.returns-in_err-e
unfolding text
returns-in_err-e c =
    let a = c.args in
    let n = was-none _ c.in_err-e.ensures.value in
    let O = rw (was-some _ _ c.in_ok-o.ensures.value) at c.cut_number.ensures in
    let W = rw (was-some _ _ c.in_ok-b.ensures.value) at c.cut_word.ensures in
    let X = rw (was-some _ _ c.in_ok-v.ensures.value) at c.cut_number-2.ensures in
    λ l. rw (passed-on _ c.from_residual-in_err-e.ensures.1, n.1) (lit-no-end a.text.now a.at l O W X (rw n.0 at c.cut_word-2.ensures))

pub overflow_add-o : goal.overflow_add-o
overflow_add-o c =
    let O = rw (was-some _ _ c.in_ok-o.ensures.value) at c.cut_number.ensures in
    omega (arith, O.behind.2)

pub short_size-requires : goal.short_size-requires
short_size-requires c =
    let O = rw (was-some _ _ c.in_ok-o.ensures.value) at c.cut_number.ensures in
    omega (arith, O.behind.2)

pub short_size-requires-2 : goal.short_size-requires-2
short_size-requires-2 c =
    let X = rw (was-some _ _ c.in_ok-v.ensures.value) at c.cut_number-2.ensures in
    omega (arith, X.behind.2)

pub returns : goal.returns
unfolding text
returns c =
    let a = c.args in
    let O = rw (was-some _ _ c.in_ok-o.ensures.value) at c.cut_number.ensures in
    let W = rw (was-some _ _ c.in_ok-b.ensures.value) at c.cut_word.ensures in
    let X = rw (was-some _ _ c.in_ok-v.ensures.value) at c.cut_number-2.ensures in
    let E = rw (was-some _ _ c.in_ok-e.ensures.value) at c.cut_word-2.ensures in
    λ l. lit-there a.text.now a.at l O W X E c.short_size.ensures c.short_size-2.ensures
