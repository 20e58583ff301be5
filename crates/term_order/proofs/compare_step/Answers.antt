use Rattle.term_order.specs.Steps.{step-head-less, step-head-greater, step-value-less, step-value-greater}
use native.Mathlib.Omega.{arith}
use Rattle.term_order.proofs.compare_step.Goals as goal

pub returns-then-h-g : goal.returns-then-h-g
returns-then-h-g c =
    let a = c.args in
    let x = c.head-h.ensures in
    let y = c.head-g.ensures in
    step-head-less a.terms.now a.runs.now c.requires.0 a.a a.b c.requires.1 c.requires.2 c.requires.3 (omega (arith, c.if-h-g.true))

pub returns-then-g-h : goal.returns-then-g-h
returns-then-g-h c =
    let a = c.args in
    let x = c.head-h.ensures in
    let y = c.head-g.ensures in
    step-head-greater a.terms.now a.runs.now c.requires.0 a.a a.b c.requires.1 c.requires.2 c.requires.3 (omega (arith, c.if-g-h.true))

pub returns-then-v-w : goal.returns-then-v-w
returns-then-v-w c =
    let a = c.args in
    let x = c.head-h.ensures in
    let y = c.head-g.ensures in
    let u = c.value-v.ensures in
    let w = c.value-w.ensures in
    step-value-less a.terms.now a.runs.now c.requires.0 a.a a.b c.requires.1 c.requires.2 c.requires.3 (omega (arith, c.if-h-g.false, c.if-g-h.false)) (omega (arith, c.if-v-w.true))

pub returns-then-w-v : goal.returns-then-w-v
returns-then-w-v c =
    let a = c.args in
    let x = c.head-h.ensures in
    let y = c.head-g.ensures in
    let u = c.value-v.ensures in
    let w = c.value-w.ensures in
    step-value-greater a.terms.now a.runs.now c.requires.0 a.a a.b c.requires.1 c.requires.2 c.requires.3 (omega (arith, c.if-h-g.false, c.if-g-h.false)) (omega (arith, c.if-w-v.true))

pub compare_runs-requires : goal.compare_runs-requires
compare_runs-requires c =
    let a = c.args in
    let x = c.head-h.ensures in
    let y = c.head-g.ensures in
    let u = c.value-v.ensures in
    let w = c.value-w.ensures in
    (c.requires.0, c.requires.1, c.requires.2, c.requires.3, omega (arith, c.if-h-g.false, c.if-g-h.false), omega (arith, c.if-v-w.false, c.if-w-v.false))

pub returns : goal.returns
returns c = c.compare_runs.ensures
