use Rattle.spec.specs.Image.{tables_of}
use Rattle.image.specs.Loaded.{classes-many}
use Rattle.best_terms.specs.Building.{walk_kept}
use Rattle.query.specs.Settings.{limits_of}
use native.Mathlib.Omega.{arith}
use mathlib.Core.Path.{sym, ◌∙◌}
use Rattle.best_terms.proofs.best_term.Goals as goal

pub at_u16-b-requires : goal.at_u16-b-requires
at_u16-b-requires c =
    let a = c.args in
    omega (arith, c.requires.3, c.requires.4, classes-many a.s.now a.im c.requires.1, c.requires.2.counts.few_classes)

pub build_best_term-requires : goal.build_best_term-requires
build_best_term-requires c =
    let a = c.args in
    (c.requires.0, c.requires.1, c.requires.2, c.requires.3, c.requires.4, c.requires.5, sym c.at_u16-b.ensures.0 ∙ c.if-b-eq0.true, c.requires.6)

pub returns : goal.returns
returns c =
    let a = c.args in
    walk_kept (limits_of a.lim) (tables_of a.s.now) a.terms.now a.runs.now a.best.now a.class c.requires.0 c.requires.5 (omega (arith, c.requires.3, classes-many a.s.now a.im c.requires.1)) (omega (arith, c.at_u16-b.ensures.0, c.if-b-eq0.false)) c.at_u16-b.result c.at_u16-b.ensures.0 c.requires.2
