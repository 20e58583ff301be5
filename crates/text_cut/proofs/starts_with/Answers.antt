use native.Mathlib.Omega.{arith}
use mathlib.Core.Path.{sym, ◌∙◌}
use Rattle.text_cut.specs.CutLaws.{starts-start, starts-end, starts-short, starts-differs, starts_more}
use Rattle.text_cut.proofs.starts_with.Goals as goal

pub loop-i-init : goal.loop-i-init
loop-i-init c = (omega arith, omega arith, starts-start c.args.w.now c.args.text.now c.args.at)

pub returns-then-at-i : goal.returns-then-at-i
returns-then-at-i c =
    let a = c.args in
    sym (starts-short a.w.now a.text.now a.at c.loop-i.i (omega arith) (omega arith)) ∙ c.loop-i.invariant.2

pub returns-then-text-at : goal.returns-then-text-at
returns-then-text-at c =
    let a = c.args in
    sym (starts-differs a.w.now a.text.now a.at c.loop-i.i (omega arith) (omega arith) c.if-text-at.true) ∙ c.loop-i.invariant.2

pub loop-i-preserved : goal.loop-i-preserved
loop-i-preserved c =
    let a = c.args in
    (omega arith, omega arith, sym (starts_more a.w.now a.text.now a.at c.loop-i.i (omega arith) (omega arith) c.if-text-at.false) ∙ c.loop-i.invariant.2)

pub returns : goal.returns
returns c =
    let a = c.args in
    sym (starts-end a.w.now a.text.now a.at c.loop-i.i (omega arith)) ∙ c.loop-i.invariant.2
