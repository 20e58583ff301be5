use Rattle.exact_fixed.specs.FinishLaws.{finish-answers}
use Rattle.exact_fixed.specs.Following.{follows-ended, follows-rounds, rounds-answer}
use Rattle.work_clearing.specs.Cleared.{cleared-same}
use Rattle.outcome.specs.Outcomes.{ran-listable, ran-answers}
use Rattle.query.specs.Settings.{limits_of, asked_of}
use Rattle.spec.specs.Run.{run_of}
use Rattle.spec.specs.Image.{tables_of}
use native.Mathlib.Omega.{arith}
use mathlib.Core.Path.{refl}
use Rattle.exact_fixed.proofs.finish.Goals as goal

pub start-x-requires : goal.start-x-requires
start-x-requires c =
    let L = c.requires.4 in
    (c.requires.0, c.requires.1, c.requires.2, c.requires.3, L.wide, L.marks, L.scratch.few, L.numbers, L.rooms, c.requires.5)

pub conclude-requires : goal.conclude-requires
conclude-requires c =
    let a = c.args in
    let s = c.start-x in
    let z = s.new.pairs in
    let e = c.in-Ended.is in
    ran-listable ((run_of (limits_of c.args.lim) (tables_of c.args.s.now) (asked_of c.args.q) c.args.q.budget)) a.graph.now c.start-x.new.terms c.start-x.new.runs c.in-Ended.y (follows-ended (limits_of a.lim) (tables_of a.s.now) ((run_of (limits_of c.args.lim) (tables_of c.args.s.now) (asked_of c.args.q) c.args.q.budget)) a.q.budget a.im.classes a.graph.now z c.start-x.new.terms c.start-x.new.runs s.result s.ensures _ e)

pub shape_of-graph-in-Ended : goal.shape_of-graph-in-Ended
shape_of-graph-in-Ended c = omega (arith, c.conclude.auto, c.start-x.auto)

pub shape_of-pairs-in-Ended : goal.shape_of-pairs-in-Ended
shape_of-pairs-in-Ended c = omega (arith, c.conclude.auto, c.start-x.auto)

pub shape_of-work-in-Ended : goal.shape_of-work-in-Ended
shape_of-work-in-Ended c = omega (arith, c.conclude.auto, c.start-x.auto)

pub shape_of-flow-in-Ended : goal.shape_of-flow-in-Ended
shape_of-flow-in-Ended c = omega (arith, c.conclude.auto, c.start-x.auto)

pub shape_of-terms-in-Ended : goal.shape_of-terms-in-Ended
shape_of-terms-in-Ended c = omega (arith, c.conclude.auto, c.start-x.auto)

pub shape_of-runs-in-Ended : goal.shape_of-runs-in-Ended
shape_of-runs-in-Ended c = omega (arith, c.conclude.auto, c.start-x.auto)

pub shape_of-out-in-Ended : goal.shape_of-out-in-Ended
shape_of-out-in-Ended c = omega (arith, c.conclude.auto, c.start-x.auto)

pub returns-in-Ended : goal.returns-in-Ended
returns-in-Ended c =
    let a = c.args in
    let s = c.start-x in
    let z = s.new.pairs in
    let e = c.in-Ended.is in
    let o = c.conclude in
    (finish-answers (limits_of c.args.lim) (tables_of c.args.s.now) (asked_of c.args.q) c.args.q.budget c.args.im.classes c.args.graph.now c.args.terms.now c.args.runs.now c.args.b c.requires.5 c.skipped_of-k.result c.skipped_of-k.ensures _ _ _ (ran-answers ((run_of (limits_of c.args.lim) (tables_of c.args.s.now) (asked_of c.args.q) c.args.q.budget)) a.graph.now c.start-x.new.terms c.start-x.new.runs c.skipped_of-k.result c.in-Ended.y a.out.now _ _ (follows-ended (limits_of a.lim) (tables_of a.s.now) ((run_of (limits_of c.args.lim) (tables_of c.args.s.now) (asked_of c.args.q) c.args.q.budget)) a.q.budget a.im.classes a.graph.now z c.start-x.new.terms c.start-x.new.runs s.result s.ensures _ e) o.ensures.0), cleared-same o.ensures.1 refl (omega (arith, s.auto)) refl refl (omega (arith, s.auto)) (omega (arith, s.auto)))

pub run_rounds-requires : goal.run_rounds-requires
run_rounds-requires c =
    let a = c.args in
    let s = c.start-x in
    let z = s.new.pairs in
    let e = c.in-Rounds.is in
    let L = c.requires.4 in
    let u = L.rooms in
    let T = follows-rounds (limits_of a.lim) (tables_of a.s.now) ((run_of (limits_of c.args.lim) (tables_of c.args.s.now) (asked_of c.args.q) c.args.q.budget)) a.q.budget a.im.classes a.graph.now z c.start-x.new.terms c.start-x.new.runs s.result s.ensures _ _ e in
    (c.requires.0, c.requires.1, T.graphs, omega (arith, L.numbers, s.auto), L.marks, L.scratch, T.holds, record { few = u.few; ends = u.ends; long = omega (arith, u.long, s.auto); roomy = omega (arith, u.roomy, s.auto) }, T.within, T.stands, T.left)

pub shape_of-graph-in-Rounds : goal.shape_of-graph-in-Rounds
shape_of-graph-in-Rounds c = omega (arith, c.run_rounds.auto, c.start-x.auto)

pub shape_of-pairs-in-Rounds : goal.shape_of-pairs-in-Rounds
shape_of-pairs-in-Rounds c = omega (arith, c.run_rounds.auto, c.start-x.auto)

pub shape_of-work-in-Rounds : goal.shape_of-work-in-Rounds
shape_of-work-in-Rounds c = omega (arith, c.run_rounds.auto, c.start-x.auto)

pub shape_of-flow-in-Rounds : goal.shape_of-flow-in-Rounds
shape_of-flow-in-Rounds c = omega (arith, c.run_rounds.auto, c.start-x.auto)

pub shape_of-terms-in-Rounds : goal.shape_of-terms-in-Rounds
shape_of-terms-in-Rounds c = omega (arith, c.run_rounds.auto, c.start-x.auto)

pub shape_of-runs-in-Rounds : goal.shape_of-runs-in-Rounds
shape_of-runs-in-Rounds c = omega (arith, c.run_rounds.auto, c.start-x.auto)

pub shape_of-out-in-Rounds : goal.shape_of-out-in-Rounds
shape_of-out-in-Rounds c = omega (arith, c.run_rounds.auto, c.start-x.auto)

pub returns-in-Rounds : goal.returns-in-Rounds
returns-in-Rounds c =
    let a = c.args in
    let s = c.start-x in
    let z = s.new.pairs in
    let e = c.in-Rounds.is in
    let o = c.run_rounds in
    (finish-answers (limits_of c.args.lim) (tables_of c.args.s.now) (asked_of c.args.q) c.args.q.budget c.args.im.classes c.args.graph.now c.args.terms.now c.args.runs.now c.args.b c.requires.5 c.skipped_of-k.result c.skipped_of-k.ensures _ _ _ (rounds-answer (follows-rounds (limits_of a.lim) (tables_of a.s.now) ((run_of (limits_of c.args.lim) (tables_of c.args.s.now) (asked_of c.args.q) c.args.q.budget)) a.q.budget a.im.classes a.graph.now z c.start-x.new.terms c.start-x.new.runs s.result s.ensures _ _ e) c.skipped_of-k.result a.out.now _ _ o.ensures.0), cleared-same o.ensures.1 refl (omega (arith, s.auto)) refl refl (omega (arith, s.auto)) (omega (arith, s.auto)))
