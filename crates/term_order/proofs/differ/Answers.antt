use Rattle.term_order.specs.CompareLaws.{diff-none, diff-past, diff-turn, diff-apart, differs-by}
use native.Mathlib.Omega.{arith}
use mathlib.Core.Path.{refl, sym, ◌∙◌}
use Rattle.term_order.proofs.differ.Goals as goal

pub loop-i-init : goal.loop-i-init
loop-i-init c = refl

pub returns-then-j-n : goal.returns-then-j-n
returns-then-j-n c =
    let a = c.args in
    differs-by (sym c.loop-i.invariant ∙ diff-past a.runs.now c.loop-i.i a.m c.loop-i.j a.n (omega arith) (omega arith)) refl refl

pub returns-then-runs-i : goal.returns-then-runs-i
returns-then-runs-i c =
    let a = c.args in
    rw (sym c.loop-i.invariant ∙ diff-apart a.runs.now c.loop-i.i a.m c.loop-i.j a.n (omega arith) (omega arith) c.if-runs-i.true) c.apart.ensures

pub loop-i-preserved : goal.loop-i-preserved
loop-i-preserved c =
    let a = c.args in
    sym (diff-turn a.runs.now c.loop-i.i a.m c.loop-i.j a.n (omega arith) (omega arith) c.if-runs-i.false) ∙ c.loop-i.invariant

pub returns : goal.returns
returns c =
    let a = c.args in
    differs-by (sym c.loop-i.invariant ∙ diff-none a.runs.now c.loop-i.i a.m c.loop-i.j a.n (omega arith)) refl refl
