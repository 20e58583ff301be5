use native.Mathlib.Omega.{arith}
use mathlib.Core.Path.{refl}
use Rattle.spec.specs.Image.{tables_of}
use Rattle.query.specs.Settings.{limits_of}
use Rattle.lgg.specs.Pairs.{rounds_of}
use Rattle.arrays.specs.Arrays.{pairs_in}
use Rattle.work_clearing.specs.Cleared.{cleared-same}
use Rattle.outcome.specs.Outcomes.{ran-listable, ran-answers}
use Rattle.rounds.specs.Graphs.{state_in}
use Rattle.rounds.proofs.run_rounds.Goals as goal

pub relax-x-requires : goal.relax-x-requires
relax-x-requires c = c.requires

pub conclude-requires : goal.conclude-requires
conclude-requires c =
    let a = c.args in
    let r = c.relax-x in
    ran-listable (rounds_of (limits_of a.lim) (tables_of a.s.now) (pairs_in a.im.classes a.graph.now a.n) (state_in a.pairs.now a.terms.now a.runs.now a.n 0 a.b.left a.budget)) a.graph.now _ _ r.result r.ensures

pub shape_of-graph : goal.shape_of-graph
shape_of-graph c = omega (arith, c.relax-x.auto, c.conclude.auto)

pub shape_of-pairs : goal.shape_of-pairs
shape_of-pairs c = omega (arith, c.relax-x.auto, c.conclude.auto)

pub shape_of-work : goal.shape_of-work
shape_of-work c = omega (arith, c.relax-x.auto, c.conclude.auto)

pub shape_of-flow : goal.shape_of-flow
shape_of-flow c = omega (arith, c.relax-x.auto, c.conclude.auto)

pub shape_of-terms : goal.shape_of-terms
shape_of-terms c = omega (arith, c.relax-x.auto, c.conclude.auto)

pub shape_of-runs : goal.shape_of-runs
shape_of-runs c = omega (arith, c.relax-x.auto, c.conclude.auto)

pub shape_of-out : goal.shape_of-out
shape_of-out c = omega (arith, c.relax-x.auto, c.conclude.auto)

pub returns : goal.returns
returns c =
    let a = c.args in
    let r = c.relax-x in
    let e = c.conclude.ensures in
    (ran-answers (rounds_of (limits_of a.lim) (tables_of a.s.now) (pairs_in a.im.classes a.graph.now a.n) (state_in a.pairs.now a.terms.now a.runs.now a.n 0 a.b.left a.budget)) a.graph.now _ _ a.skipped r.result _ _ _ r.ensures e.0, cleared-same e.1 refl (omega (arith, r.auto)) (omega (arith, r.auto)) (omega (arith, r.auto)) (omega (arith, r.auto)) (omega (arith, r.auto)))
