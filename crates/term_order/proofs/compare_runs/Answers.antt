use Rattle.term_order.specs.Steps.{step-length-less, step-length-greater, step-below}
use Rattle.terms.specs.PoolLaws.{span_fits}
use native.Mathlib.Omega.{arith}
use Rattle.term_order.proofs.compare_runs.Goals as goal

pub counted-k-requires : goal.counted-k-requires
counted-k-requires c =
    let a = c.args in
    span_fits a.terms.now a.runs.now c.requires.0 a.a c.first-i.result c.first-m.result c.requires.1 c.first-i.ensures.0 c.first-m.ensures.0

pub counted-l-requires : goal.counted-l-requires
counted-l-requires c =
    let a = c.args in
    span_fits a.terms.now a.runs.now c.requires.0 a.b c.first-j.result c.first-n.result c.requires.2 c.first-j.ensures.0 c.first-n.ensures.0

pub returns-then-k-l : goal.returns-then-k-l
returns-then-k-l c =
    let a = c.args in
    let x = rw (c.first-i.ensures.0, c.first-m.ensures.0) at c.counted-k.ensures in
    let y = rw (c.first-j.ensures.0, c.first-n.ensures.0) at c.counted-l.ensures in
    step-length-less a.terms.now a.runs.now c.requires.0 a.a a.b c.requires.1 c.requires.2 c.requires.3 c.requires.4 c.requires.5 (omega (arith, c.if-k-l.true))

pub returns-then-l-k : goal.returns-then-l-k
returns-then-l-k c =
    let a = c.args in
    let x = rw (c.first-i.ensures.0, c.first-m.ensures.0) at c.counted-k.ensures in
    let y = rw (c.first-j.ensures.0, c.first-n.ensures.0) at c.counted-l.ensures in
    step-length-greater a.terms.now a.runs.now c.requires.0 a.a a.b c.requires.1 c.requires.2 c.requires.3 c.requires.4 c.requires.5 (omega (arith, c.if-l-k.true))

pub differ-d-requires : goal.differ-d-requires
differ-d-requires c =
    let a = c.args in
    let x = span_fits a.terms.now a.runs.now c.requires.0 a.a c.first-i.result c.first-m.result c.requires.1 c.first-i.ensures.0 c.first-m.ensures.0 in
    let y = span_fits a.terms.now a.runs.now c.requires.0 a.b c.first-j.result c.first-n.result c.requires.2 c.first-j.ensures.0 c.first-n.ensures.0 in
    (x.1, y.1)

pub returns : goal.returns
returns c =
    let a = c.args in
    let x = rw (c.first-i.ensures.0, c.first-m.ensures.0) at c.counted-k.ensures in
    let y = rw (c.first-j.ensures.0, c.first-n.ensures.0) at c.counted-l.ensures in
    let d = rw (c.first-i.ensures.0, c.first-m.ensures.0, c.first-j.ensures.0, c.first-n.ensures.0) at c.differ-d.ensures in
    step-below a.terms.now a.runs.now c.requires.0 a.a a.b c.requires.1 c.requires.2 c.requires.3 c.requires.4 c.requires.5 (omega (arith, c.if-k-l.false, c.if-l-k.false)) c.differ-d.result.left c.differ-d.result.right d.left d.right
