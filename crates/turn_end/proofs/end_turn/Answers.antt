use Rattle.std.specs.Prelude.{Some, None}
use Rattle.spec.specs.Image.{tables_of}
use Rattle.query.specs.Settings.{limits_of}
use Rattle.arrays.specs.Arrays.{quality_in, term_in}
use Rattle.turn_end.specs.Ending.{takes-full, takes-to}
use mathlib.Core.Path.{refl}
use Rattle.turn_end.proofs.end_turn.Goals as goal

pub returns-in_err-term : goal.returns-in_err-term
returns-in_err-term c =
    let a = c.args in
    let q = quality_in a.im.classes a.graph.now a.pairs.now in
    let of = term_in a.im.classes a.graph.now a.pairs.now in
    let d = rw c.in_err-term.was at c.turn_term.ensures in
    rw c.from_residual.ensures (takes-full (limits_of a.lim) (tables_of a.s.now) q of (a.l, a.r) a.lim.pairs a.terms.now a.runs.now _ _ _ _ a.best c.requires.9 None d refl, d.list_is)

pub returns : goal.returns
returns c =
    let a = c.args in
    let q = quality_in a.im.classes a.graph.now a.pairs.now in
    let of = term_in a.im.classes a.graph.now a.pairs.now in
    let d = rw c.in_ok-term.was at c.turn_term.ensures in
    (takes-to (limits_of a.lim) (tables_of a.s.now) q of (a.l, a.r) a.lim.pairs a.terms.now a.runs.now _ _ _ _ a.best c.requires.9 (Some c.in_ok-term.term) d c.in_ok-term.term refl c.short_u64.result c.short_u64-2.result c.changed.result c.short_u64.ensures c.short_u64-2.ensures c.changed.ensures, d.list_is)
