use borrow.Author.Rules.{rules}
use native.Mathlib.Omega.{arith}
use mathlib.Core.Path.{◌∙◌}
use Rattle.query.specs.Settings.{limits_of}
use Rattle.std.proofs.Common.{List, ℕ, ◌<◌, length, Err}
use Rattle.spec.specs.Bytes.{Limits}
use Rattle.term_lines.specs.Loading.{AddsLine, AddsLines}
use Rattle.term_lines.specs.declared.Fault.{Fault}
use Rattle.term_lines.specs.declared.Fault.TheVariants as F
use Rattle.term_lines.proofs.Faults.{passed-on}
use Rattle.term_lines.specs.LoadLaws.{Loading, loading-start, loading-turn, loading-broken, loading-full, loading-none, loading-end}
use Rattle.term_lines.proofs.add_lines.Goals as goal

loading-fault : (lim : Limits) (s list₀ terms₀ runs₀ list terms runs : List ℕ) (at : ℕ) → Loading lim s list₀ terms₀ runs₀ list terms runs at → at < length s → {terms' runs' : List ℕ} (x : Fault) → AddsLine lim s at terms runs terms' runs' (Err x) → AddsLines lim s terms₀ runs₀ terms' runs' (Err x)
loading-fault lim s list₀ terms₀ runs₀ list terms runs at S h F.Broken X = loading-broken lim s list₀ terms₀ runs₀ list terms runs at S h X
loading-fault lim s list₀ terms₀ runs₀ list terms runs at S h F.Full X = loading-full lim s list₀ terms₀ runs₀ list terms runs at S h X

pub loop-at-init : goal.loop-at-init
loop-at-init c =
    let a = c.args in
    loading-start (limits_of a.lim) a.text.now a.list.now a.terms.now a.runs.now c.requires.1 c.requires.3

pub loop-at-smaller : goal.loop-at-smaller
loop-at-smaller c = omega (arith, c.in_ok-at.ensures.behind)

pub loop-at-preserved : goal.loop-at-preserved
loop-at-preserved c =
    let a = c.args in
    let l = c.loop-at in
    loading-turn (limits_of a.lim) a.text.now a.list.now a.terms.now a.runs.now l.list l.terms l.runs l.at l.invariant (omega arith) c.in_ok-at.ensures (search rules) (search rules) (search rules)

pub returns-in_err-at : goal.returns-in_err-at
returns-in_err-at c =
    let a = c.args in
    let l = c.loop-at in
    rw (passed-on _ c.from_residual.ensures.1) (loading-fault (limits_of a.lim) a.text.now a.list.now a.terms.now a.runs.now l.list l.terms l.runs l.at l.invariant (omega arith) _ c.in_err-at.ensures)

pub returns-then-count-eq0 : goal.returns-then-count-eq0
returns-then-count-eq0 c =
    let a = c.args in
    let l = c.loop-at in
    loading-none (limits_of a.lim) a.text.now a.list.now a.terms.now a.runs.now l.list l.terms l.runs l.at l.invariant (omega arith) (omega (arith, c.count.ensures.0, c.if-count-eq0.true))

pub returns : goal.returns
returns c =
    let a = c.args in
    let l = c.loop-at in
    loading-end (limits_of a.lim) a.text.now a.list.now a.terms.now a.runs.now l.list l.terms l.runs l.at l.invariant (omega arith) (λ e. c.if-count-eq0.false (c.count.ensures.0 ∙ e))
