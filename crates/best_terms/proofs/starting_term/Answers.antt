use Rattle.spec.specs.Image.{tables_of}
use Rattle.image.specs.Loaded.{classes-many}
use Rattle.best_terms.specs.Starting.{start-full, start-same, start-full-second, start-within, start-marked}
use Rattle.query.specs.Settings.{limits_of}
use Rattle.terms.specs.PoolLaws.{rooms_same}
use mathlib.Core.Path.{◌∙◌}
use native.Mathlib.Omega.{arith}
use Rattle.best_terms.proofs.starting_term.Goals as goal

pub returns-in_err-a : goal.returns-in_err-a
returns-in_err-a c =
    let a = c.args in
    rw c.from_residual.ensures (start-full (limits_of a.lim) (tables_of a.s.now) a.terms.now a.runs.now a.best.now a.l a.r _ _ _ (rw c.in_err-a.was at c.best_term.ensures))

pub returns-then-l-r : goal.returns-then-l-r
returns-then-l-r c =
    let a = c.args in
    start-same (limits_of a.lim) (tables_of a.s.now) a.terms.now a.runs.now a.best.now a.l a.r _ _ _ _ (rw c.in_ok-a.was at c.best_term.ensures) c.requires.2 (omega (arith, c.requires.3, classes-many a.s.now a.im c.requires.1)) (omega (arith, c.requires.3, c.requires.5, c.requires.2.counts.few_classes, classes-many a.s.now a.im c.requires.1)) c.if-l-r.true

pub best_term-requires-2 : goal.best_term-requires-2
best_term-requires-2 c =
    let a = c.args in
    let k = c.best_term in
    let x = rw c.in_ok-a.was at k.ensures in
    (x.holds, c.requires.1, c.requires.2, c.requires.4, omega (arith, c.requires.5, k.auto), x.kept, rooms_same k.auto.terms k.auto.runs c.requires.7)

pub returns-in_err-b : goal.returns-in_err-b
returns-in_err-b c =
    let a = c.args in
    rw c.from_residual-in_err-b.ensures (start-full-second (limits_of a.lim) (tables_of a.s.now) a.terms.now a.runs.now a.best.now a.l a.r _ _ _ _ (rw c.in_ok-a.was at c.best_term.ensures) c.if-l-r.false _ _ _ (rw c.in_err-b.was at c.best_term-2.ensures))

pub variants-requires : goal.variants-requires
variants-requires c =
    let a = c.args in
    let k = c.best_term in
    let m = c.best_term-2 in
    let y = rw c.in_ok-b.was at m.ensures in
    let w = start-within (limits_of a.lim) (tables_of a.s.now) a.terms.now a.runs.now a.best.now a.l a.r _ _ _ _ (rw c.in_ok-a.was at c.best_term.ensures) c.if-l-r.false _ _ _ c.requires.2 c.requires.0.valid (omega (arith, c.requires.3, classes-many a.s.now a.im c.requires.1)) (omega (arith, c.requires.4, classes-many a.s.now a.im c.requires.1)) _ y in
    (y.holds, w.0, w.1, rooms_same (m.auto.terms ∙ k.auto.terms) (m.auto.runs ∙ k.auto.runs) c.requires.7)

pub returns : goal.returns
returns c =
    let a = c.args in
    start-marked (limits_of a.lim) (tables_of a.s.now) a.terms.now a.runs.now a.best.now a.l a.r _ _ _ _ (rw c.in_ok-a.was at c.best_term.ensures) c.if-l-r.false _ _ _ c.requires.2 c.requires.0.valid (omega (arith, c.requires.3, classes-many a.s.now a.im c.requires.1)) (omega (arith, c.requires.4, classes-many a.s.now a.im c.requires.1)) _ (rw c.in_ok-b.was at c.best_term-2.ensures) _ _ c.variants.result c.variants.ensures
