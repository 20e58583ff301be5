use Rattle.std.proofs.Common.{List, ℕ, ◌≡◌, ◌≤◌, length, drop, Err, arith}
use Rattle.spec.specs.Bytes.{Limits}
use Rattle.spec.specs.Pool.{RUNS}
use Rattle.formula.specs.Lines.{cut_line}
use Rattle.query.specs.Settings.{limits_of}
use Rattle.terms.specs.Buffers.{count_in}
use Rattle.terms.specs.Chains.{Holds}
use Rattle.term_lines.specs.Reading.{CutsLine}
use Rattle.term_lines.specs.Loading.{AddsLine}
use Rattle.term_lines.specs.declared.Fault.{Fault}
use Rattle.term_lines.specs.declared.Fault.TheVariants as F
use Rattle.term_lines.specs.LoadLaws.{add-broken, add-full, node-valid, node-light, add-no-room, add-again, add-new}
use Rattle.term_lines.proofs.Faults.{was-some, was-none, passed-on}
use Rattle.term_lines.proofs.add_line.Goals as goal

add-fault : (lim : Limits) (s : List ℕ) (at k : ℕ) (terms runs list : List ℕ) → Holds terms runs → k ≡ count_in terms → (x : Fault) → CutsLine (cut_line k (drop at s)) s at list (Err x) → AddsLine lim s at terms runs terms runs (Err x)
add-fault lim s at k terms runs list H m F.Broken C = add-broken lim s at k terms runs list H m C
add-fault lim s at k terms runs list H m F.Full C = add-full lim s at k terms runs list H m C

pub returns-in_err-h : goal.returns-in_err-h
returns-in_err-h c =
    let a = c.args in
    rw (passed-on _ c.from_residual.ensures.1) (add-fault (limits_of a.lim) a.text.now a.at _ a.terms.now a.runs.now _ c.requires.2 c.count-k.ensures.0 _ c.in_err-h.ensures)

pub intern-requires : goal.intern-requires
intern-requires c =
    let a = c.args in
    let long : RUNS ≤ length c.cut_line.new.list = omega arith in
    let C = c.in_ok-h.ensures in
    let m = c.count-k.ensures.0 in
    (c.requires.2, node-valid (limits_of a.lim) a.text.now a.at _ a.terms.now a.runs.now _ c.requires.2 c.count-k.ensures.0 C, omega (arith, C.behind.2, long), node-light (limits_of a.lim) a.text.now a.at _ a.terms.now a.runs.now _ c.requires.2 c.count-k.ensures.0 C, c.requires.3)

pub returns-in_err-t : goal.returns-in_err-t
returns-in_err-t c =
    let a = c.args in
    let long : RUNS ≤ length c.cut_line.new.list = omega arith in
    let n = was-none _ c.in_err-t.ensures.value in
    rw (passed-on _ c.from_residual-in_err-t.ensures.1, n.1) (add-no-room (limits_of a.lim) a.text.now a.at _ a.terms.now a.runs.now _ c.requires.2 c.count-k.ensures.0 c.in_ok-h.ensures long (rw n.0 at c.intern.ensures))

pub returns-then-t-k : goal.returns-then-t-k
returns-then-t-k c =
    let a = c.args in
    let long : RUNS ≤ length c.cut_line.new.list = omega arith in
    let I = rw (was-some _ _ c.in_ok-t.ensures.value) at c.intern.ensures in
    add-again (limits_of a.lim) a.text.now a.at _ a.terms.now a.runs.now _ c.requires.2 c.count-k.ensures.0 c.in_ok-h.ensures long I c.if-t-k.true

pub returns : goal.returns
returns c =
    let a = c.args in
    let long : RUNS ≤ length c.cut_line.new.list = omega arith in
    let I = rw (was-some _ _ c.in_ok-t.ensures.value) at c.intern.ensures in
    add-new (limits_of a.lim) a.text.now a.at _ a.terms.now a.runs.now _ c.requires.2 c.count-k.ensures.0 c.in_ok-h.ensures long I c.if-t-k.false
