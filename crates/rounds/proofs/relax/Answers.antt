use lib.ListN.{replicate}
use Rattle.spec.specs.Image.{tables_of}
use Rattle.query.specs.Settings.{limits_of}
use Rattle.lgg.specs.Pairs.{rounds_of}
use Rattle.arrays.specs.Arrays.{pairs_in, qualities_in}
use Rattle.settling.specs.Quiet.{quiet-first}
use Rattle.rounds.specs.Graphs.{state_in}
use Rattle.terms.specs.PoolLaws.{rooms_same}
use Rattle.turns.specs.TurnLaws.{scratch-kept}
use Rattle.budget.specs.Spending.{expired, spent}
use Rattle.round_outcome.specs.After.{after_next}
use Rattle.rounds.specs.Idling.{idles-first, idles-after}
use Rattle.rounds.specs.Running.{standing-any, run-expired, round-ended, round-within, round-left, round-next, round-quiets}
use native.Mathlib.Omega.{arith}
use mathlib.Core.Path.{refl}
use mathlib.Core.Bool.{true}
use Rattle.rounds.proofs.relax.Goals as goal

pub loop-lim-init : goal.loop-lim-init
loop-lim-init c =
    let a = c.args in
    (refl, refl, refl, refl, refl, omega arith, record { rest = refl; standing = c.requires.9; left = c.requires.10; long = omega (arith, c.requires.2.few, c.requires.3); holds = c.requires.6; within = c.requires.8 }, quiet-first (tables_of a.s.now) c.requires.1 (pairs_in a.im.classes a.graph.now a.n) c.requires.2.pairs (qualities_in a.pairs.now 0 a.n) (replicate 256 1) (replicate 256 1) refl refl, idles-first (tables_of a.s.now) c.requires.1 (pairs_in a.im.classes a.graph.now a.n) c.requires.2.pairs a.pairs.now)

pub reported-requires : goal.reported-requires
reported-requires c = omega (arith, c.loop-lim.invariant.6.long, c.requires.2.some)

pub shape_of-pairs-then-not-sp : goal.shape_of-pairs-then-not-sp
shape_of-pairs-then-not-sp c = c.loop-lim.invariant.0

pub shape_of-work-then-not-sp : goal.shape_of-work-then-not-sp
shape_of-work-then-not-sp c = c.loop-lim.invariant.1

pub shape_of-flow-then-not-sp : goal.shape_of-flow-then-not-sp
shape_of-flow-then-not-sp c = c.loop-lim.invariant.2

pub shape_of-terms-then-not-sp : goal.shape_of-terms-then-not-sp
shape_of-terms-then-not-sp c = c.loop-lim.invariant.3

pub shape_of-runs-then-not-sp : goal.shape_of-runs-then-not-sp
shape_of-runs-then-not-sp c = c.loop-lim.invariant.4

pub returns-then-not-sp : goal.returns-then-not-sp
returns-then-not-sp c =
    let a = c.args in
    let l = c.loop-lim in
    run-expired (limits_of a.lim) (tables_of a.s.now) (pairs_in a.im.classes a.graph.now a.n) a.n c.requires.2.many c.requires.2.some a.graph.now c.requires.4 (rounds_of (limits_of a.lim) (tables_of a.s.now) (pairs_in a.im.classes a.graph.now a.n) (state_in a.pairs.now a.terms.now a.runs.now a.n 0 a.b.left a.budget)) l.pairs l.terms l.runs a.budget l.rounds l.bud.left l.invariant.6 c.reported.result c.reported.ensures (expired l.bud c.spend-sp.result c.spend-sp.ensures c.if-not-sp.true)

pub relax_all-x-requires : goal.relax_all-x-requires
relax_all-x-requires c =
    let a = c.args in
    let l = c.loop-lim in
    (c.requires.0, c.requires.1, c.requires.2, l.invariant.6.long, scratch-kept c.requires.5 l.invariant.1 l.invariant.2, l.invariant.6.holds, rooms_same l.invariant.3 l.invariant.4 c.requires.7, l.invariant.6.within, standing-any (pairs_in a.im.classes a.graph.now a.n) l.pairs l.terms l.runs a.n l.rounds l.bud.left a.budget 0 0 0 l.invariant.6.standing, l.invariant.7, l.invariant.8)

pub after_round-y-requires : goal.after_round-y-requires
after_round-y-requires c =
    let a = c.args in
    let l = c.loop-lim in
    let sp = c.spend-sp in
    let r = c.relax_all-x in
    let z = spent l.bud sp.result sp.ensures c.if-not-sp.false in
    (omega (arith, l.invariant.6.long, r.auto, c.requires.2.some), round-within (limits_of a.lim) (tables_of a.s.now) (pairs_in a.im.classes a.graph.now a.n) a.n c.requires.2.many c.requires.2.some a.graph.now c.requires.4 (rounds_of (limits_of a.lim) (tables_of a.s.now) (pairs_in a.im.classes a.graph.now a.n) (state_in a.pairs.now a.terms.now a.runs.now a.n 0 a.b.left a.budget)) l.pairs l.terms l.runs a.budget l.rounds l.bud.left l.invariant.6 sp.result.budget.left z _ _ _ r.result r.ensures)

pub shape_of-pairs-in-Ended : goal.shape_of-pairs-in-Ended
shape_of-pairs-in-Ended c = omega (arith, c.loop-lim.invariant.0, c.relax_all-x.auto)

pub shape_of-work-in-Ended : goal.shape_of-work-in-Ended
shape_of-work-in-Ended c = omega (arith, c.loop-lim.invariant.1, c.relax_all-x.auto)

pub shape_of-flow-in-Ended : goal.shape_of-flow-in-Ended
shape_of-flow-in-Ended c = omega (arith, c.loop-lim.invariant.2, c.relax_all-x.auto)

pub shape_of-terms-in-Ended : goal.shape_of-terms-in-Ended
shape_of-terms-in-Ended c = omega (arith, c.loop-lim.invariant.3, c.relax_all-x.auto)

pub shape_of-runs-in-Ended : goal.shape_of-runs-in-Ended
shape_of-runs-in-Ended c = omega (arith, c.loop-lim.invariant.4, c.relax_all-x.auto)

pub returns-in-Ended : goal.returns-in-Ended
returns-in-Ended c =
    let a = c.args in
    let l = c.loop-lim in
    let sp = c.spend-sp in
    let r = c.relax_all-x in
    let z = spent l.bud sp.result sp.ensures c.if-not-sp.false in
    round-ended (limits_of a.lim) (tables_of a.s.now) (pairs_in a.im.classes a.graph.now a.n) a.n c.requires.2.many c.requires.2.some a.graph.now c.requires.4 (rounds_of (limits_of a.lim) (tables_of a.s.now) (pairs_in a.im.classes a.graph.now a.n) (state_in a.pairs.now a.terms.now a.runs.now a.n 0 a.b.left a.budget)) l.pairs l.terms l.runs a.budget l.rounds l.bud.left l.invariant.6 sp.result.budget.left z _ _ _ r.result r.ensures c.after_round-y.result c.after_round-y.ensures c.in-Ended.z c.in-Ended.is

pub end_round-requires : goal.end_round-requires
end_round-requires c =
    let G = c.requires.2 in
    (c.requires.0, c.requires.1, omega (arith, G.few, c.requires.5.few), omega (arith, G.few, G.wide), omega (arith, c.loop-lim.invariant.6.long, c.relax_all-x.auto))

pub overflow_add-rounds : goal.overflow_add-rounds
overflow_add-rounds c =
    let a = c.args in
    let l = c.loop-lim in
    let sp = c.spend-sp in
    let r = c.relax_all-x in
    let z = spent l.bud sp.result sp.ensures c.if-not-sp.false in
    record { fits = omega (arith, z, l.invariant.5, c.well_formed) }

pub loop-lim-smaller : goal.loop-lim-smaller
loop-lim-smaller c =
    let a = c.args in
    let l = c.loop-lim in
    let sp = c.spend-sp in
    let r = c.relax_all-x in
    let z = spent l.bud sp.result sp.ensures c.if-not-sp.false in
    let f = c.after_round-y in
    let d = c.in-Next.left in
    let q = after_next r.result _ a.n l.rounds a.budget f.result f.ensures d c.in-Next.is in
    omega (arith, z, round-left (limits_of a.lim) (tables_of a.s.now) (pairs_in a.im.classes a.graph.now a.n) a.n c.requires.2.many c.requires.2.some a.graph.now c.requires.4 (rounds_of (limits_of a.lim) (tables_of a.s.now) (pairs_in a.im.classes a.graph.now a.n) (state_in a.pairs.now a.terms.now a.runs.now a.n 0 a.b.left a.budget)) l.pairs l.terms l.runs a.budget l.rounds l.bud.left l.invariant.6 sp.result.budget.left z _ _ _ r.result r.ensures true d q)

pub loop-lim-preserved : goal.loop-lim-preserved
loop-lim-preserved c =
    let a = c.args in
    let l = c.loop-lim in
    let sp = c.spend-sp in
    let r = c.relax_all-x in
    let z = spent l.bud sp.result sp.ensures c.if-not-sp.false in
    let f = c.after_round-y in
    let d = c.in-Next.left in
    let q = after_next r.result _ a.n l.rounds a.budget f.result f.ensures d c.in-Next.is in
    let e = c.end_round in (
      omega (arith, l.invariant.0, r.auto, e.auto),
      omega (arith, l.invariant.1, r.auto),
      omega (arith, l.invariant.2, r.auto),
      omega (arith, l.invariant.3, r.auto),
      omega (arith, l.invariant.4, r.auto),
      omega (arith, l.invariant.5, z, round-left (limits_of a.lim) (tables_of a.s.now) (pairs_in a.im.classes a.graph.now a.n) a.n c.requires.2.many c.requires.2.some a.graph.now c.requires.4 (rounds_of (limits_of a.lim) (tables_of a.s.now) (pairs_in a.im.classes a.graph.now a.n) (state_in a.pairs.now a.terms.now a.runs.now a.n 0 a.b.left a.budget)) l.pairs l.terms l.runs a.budget l.rounds l.bud.left l.invariant.6 sp.result.budget.left z _ _ _ r.result r.ensures true d q),
      round-next (limits_of a.lim) (tables_of a.s.now) (pairs_in a.im.classes a.graph.now a.n) a.n c.requires.2.many c.requires.2.some a.graph.now c.requires.4 (rounds_of (limits_of a.lim) (tables_of a.s.now) (pairs_in a.im.classes a.graph.now a.n) (state_in a.pairs.now a.terms.now a.runs.now a.n 0 a.b.left a.budget)) l.pairs l.terms l.runs a.budget l.rounds l.bud.left l.invariant.6 sp.result.budget.left z _ _ _ r.result r.ensures true d q c.requires.2.closed refl _ e.ensures.pairs,
      round-quiets (limits_of a.lim) (tables_of a.s.now) c.requires.1 a.im.classes a.graph.now a.n c.requires.2.pairs c.requires.2.closed c.requires.2.many l.pairs l.terms l.runs sp.result.budget.left _ _ _ r.result r.ensures true d q _ _ _ _ _ e.ensures,
      idles-after (tables_of a.s.now) a.im.classes a.graph.now (pairs_in a.im.classes a.graph.now a.n) a.n c.requires.2.many _ _ _ _ _ _ e.ensures (omega (arith, l.invariant.6.long, r.auto)),
    )
