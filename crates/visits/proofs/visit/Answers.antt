use mathlib.Core.Path.{sym}
use Rattle.spec.specs.Image.{tables_of}
use Rattle.query.specs.Settings.{limits_of}
use Rattle.image.specs.Loaded.{classes-many}
use Rattle.visits.specs.VisitLaws.{take-full, take-small, take-moves}
use Rattle.visits.proofs.visit.Goals as goal

pub take_turn-requires : goal.take_turn-requires
take_turn-requires c =
    (c.requires.0, c.requires.1, c.requires.2, c.requires.3, c.requires.4, c.requires.5, c.requires.6, c.requires.7, c.requires.8, c.requires.9)

pub returns-in_err-y : goal.returns-in_err-y
returns-in_err-y c =
    let a = c.args in
    let u = rw c.in_err-y.was at c.take_turn.ensures in
    rw c.from_residual.ensures (take-full (limits_of a.lim) (tables_of a.s.now) a.im.classes a.graph.now a.pairs.now (a.l, a.r) a.terms.now a.runs.now _ _ a.k a.work.now a.flow.now _ _ u.0 u.1)

pub short_size-term-requires : goal.short_size-term-requires
short_size-term-requires c =
    let a = c.args in
    let u = rw c.in_ok-y.was at c.take_turn.ensures in
    take-small (limits_of a.lim) (tables_of a.s.now) a.im.classes a.graph.now a.pairs.now (a.l, a.r) a.terms.now a.runs.now _ _ _ u.0 c.requires.1 (sym (classes-many a.s.now a.im c.requires.0)) c.requires.2 c.requires.3 c.requires.5 c.requires.8

pub returns : goal.returns
returns c =
    let a = c.args in
    let u = rw c.in_ok-y.was at c.take_turn.ensures in
    take-moves (limits_of a.lim) (tables_of a.s.now) a.im.classes a.graph.now a.pairs.now (a.l, a.r) a.terms.now a.runs.now _ _ _ u.0 a.k c.short_size-term.result _ a.work.now a.flow.now _ _ c.short_size-term.ensures c.give.ensures u.1
