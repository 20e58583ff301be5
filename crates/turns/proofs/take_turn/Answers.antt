use Rattle.spec.specs.Image.{tables_of}
use Rattle.query.specs.Settings.{limits_of}
use Rattle.arrays.specs.Arrays.{quality_in, term_in}
use Rattle.turns.specs.TurnLaws.{turn-leaves}
use native.Mathlib.Omega.{arith}
use Rattle.turns.proofs.take_turn.Goals as goal

pub end_turn-requires : goal.end_turn-requires
end_turn-requires c =
    let u = c.turn-best.ensures in
    (c.requires.0, c.requires.1, c.requires.2, c.requires.3, c.requires.4, c.requires.5, omega (arith, c.turn-best.auto, c.requires.7.list), c.requires.8, c.requires.9, u.0, u.2, u.3)

pub returns : goal.returns
returns c =
    let a = c.args in
    let z = c.end_turn.ensures in
    (z.0, turn-leaves (limits_of a.lim) (tables_of a.s.now) (quality_in a.im.classes a.graph.now a.pairs.now) (term_in a.im.classes a.graph.now a.pairs.now) (a.l, a.r) a.terms.now a.runs.now a.work.now a.flow.now _ _ _ c.turn-best.result c.turn-best.ensures.1 z.1)
