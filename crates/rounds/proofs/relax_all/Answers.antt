use Rattle.spec.specs.Image.{tables_of}
use Rattle.query.specs.Settings.{limits_of}
use Rattle.image.specs.Loaded.{classes-many}
use Rattle.lgg.specs.Pairs.{round_at}
use Rattle.arrays.specs.Arrays.{pairs_in}
use Rattle.arrays.specs.ArrayLaws.{unkeyed-length}
use Rattle.terms.specs.PoolLaws.{rooms_same}
use Rattle.turns.specs.TurnLaws.{scratch-kept}
use Rattle.budget.specs.Spending.{too_few, enough}
use Rattle.visits.specs.VisitLaws.{visits-full, visits-to}
use Rattle.live_pairs.specs.Live.{next_live}
use Rattle.rounds.specs.Graphs.{state_in, Reads, graphs-length, pair-at, pair-ranged, known-here, terms-here, cells_fit, among}
use Rattle.rounds.specs.Idling.{idles-more}
use Rattle.rounds.specs.Turning.{turning-none, turn-refused, turn_moved}
use Rattle.live_pairs.specs.LiveLaws.{due-live}
use Rattle.rounds.specs.Passing.{step_cut, step-over}
use Prim.Native.Nat.{ℕ, ◌+◌, ◌*◌}
use native.Mathlib.Omega.{arith}
use mathlib.Core.Path.{◌≡◌, refl, ap, ◌∙◌}
use lib.ListN.{length}
use Rattle.rounds.proofs.relax_all.Goals as goal

pub loop-k-init : goal.loop-k-init
loop-k-init c =
    let a = c.args in
    let n = unkeyed-length a.graph.now (a.im.classes * a.im.classes) a.n in
    (omega arith, refl, refl, refl, refl, refl, turning-none (limits_of a.lim) (tables_of a.s.now) (pairs_in a.im.classes a.graph.now a.n) (state_in a.pairs.now a.terms.now a.runs.now a.n 0 0 0) a.b.left a.pairs.now a.terms.now a.runs.now (rw n (record { long = c.requires.3; qualities = refl; terms = refl })) refl c.requires.5 c.requires.7, c.requires.10)

pub next_live-j-requires : goal.next_live-j-requires
next_live-j-requires c =
    let G = c.requires.2 in
    (omega (arith, G.classes, c.requires.1.counts.few_classes), omega (arith, G.few, c.requires.4.few), omega (arith, G.few, G.wide), c.loop-k.invariant.0)

pub shape_of-pairs-then-not-sp : goal.shape_of-pairs-then-not-sp
shape_of-pairs-then-not-sp c = c.loop-k.invariant.1

pub shape_of-work-then-not-sp : goal.shape_of-work-then-not-sp
shape_of-work-then-not-sp c = c.loop-k.invariant.2

pub shape_of-flow-then-not-sp : goal.shape_of-flow-then-not-sp
shape_of-flow-then-not-sp c = c.loop-k.invariant.3

pub shape_of-terms-then-not-sp : goal.shape_of-terms-then-not-sp
shape_of-terms-then-not-sp c = c.loop-k.invariant.4

pub shape_of-runs-then-not-sp : goal.shape_of-runs-then-not-sp
shape_of-runs-then-not-sp c = c.loop-k.invariant.5

pub returns-then-not-sp : goal.returns-then-not-sp
returns-then-not-sp c =
    let a = c.args in
    let l = c.loop-k in
    let n = unkeyed-length a.graph.now (a.im.classes * a.im.classes) a.n in
    let h = c.loop-k-test.true in
    let j = c.next_live-j in
    let sp = c.spend_many-sp in
    step_cut (limits_of a.lim) (tables_of a.s.now) (pairs_in a.im.classes a.graph.now a.n) (state_in a.pairs.now a.terms.now a.runs.now a.n 0 0 0) (round_at (limits_of a.lim) (tables_of a.s.now) (pairs_in a.im.classes a.graph.now a.n) (state_in a.pairs.now a.terms.now a.runs.now a.n 0 0 0) a.b.left) l.pairs l.terms l.runs l.changed a.im.classes a.graph.now (graphs-length (limits_of a.lim) (tables_of a.s.now) a.im.classes (pairs_in a.im.classes a.graph.now a.n) a.n a.graph.now c.requires.2) c.requires.8 a.llive.now a.rlive.now c.requires.9 l.k l.bud.left (omega (arith, n, h)) j.result (j.ensures ∙ ap (λ (x : ℕ). next_live (pairs_in a.im.classes a.graph.now a.n) a.llive.now a.rlive.now l.k x) (omega (arith, n))) l.invariant.7 l.invariant.6 (omega (arith, c.due.ensures, too_few c.due.result l.bud sp.result sp.ensures c.if-not-sp.true))

pub loop-k-smaller-then-k-j : goal.loop-k-smaller-then-k-j
loop-k-smaller-then-k-j c =
    let a = c.args in
    let l = c.loop-k in
    omega (arith, c.loop-k-test.true, c.if-k-j.true)

pub loop-k-preserved-then-k-j : goal.loop-k-preserved-then-k-j
loop-k-preserved-then-k-j c =
    let a = c.args in
    let l = c.loop-k in
    let n = unkeyed-length a.graph.now (a.im.classes * a.im.classes) a.n in
    let h = c.loop-k-test.true in
    let j = c.next_live-j in
    let sp = c.spend_many-sp in
    let z = step-over (limits_of a.lim) (tables_of a.s.now) (pairs_in a.im.classes a.graph.now a.n) (state_in a.pairs.now a.terms.now a.runs.now a.n 0 0 0) (round_at (limits_of a.lim) (tables_of a.s.now) (pairs_in a.im.classes a.graph.now a.n) (state_in a.pairs.now a.terms.now a.runs.now a.n 0 0 0) a.b.left) l.pairs l.terms l.runs l.changed a.im.classes a.graph.now (graphs-length (limits_of a.lim) (tables_of a.s.now) a.im.classes (pairs_in a.im.classes a.graph.now a.n) a.n a.graph.now c.requires.2) c.requires.8 a.llive.now a.rlive.now c.requires.9 l.k l.bud.left (omega (arith, n, h)) j.result (j.ensures ∙ ap (λ (x : ℕ). next_live (pairs_in a.im.classes a.graph.now a.n) a.llive.now a.rlive.now l.k x) (omega (arith, n))) l.invariant.7 l.invariant.6 c.if-k-j.true sp.result.budget.left (omega (arith, c.due.ensures, enough c.due.result l.bud sp.result sp.ensures c.if-not-sp.false)) in
    (omega (arith, n, z.0), l.invariant.1, l.invariant.2, l.invariant.3, l.invariant.4, l.invariant.5, z.1, z.2)

pub left_at-l-requires : goal.left_at-l-requires
left_at-l-requires c =
    let G = c.requires.2 in
    let h = c.loop-k-test.true in
    (omega (arith, G.classes, c.requires.1.counts.few_classes), omega (arith, h, G.few, c.requires.4.few), omega (arith, h, G.few, G.wide))

pub right_at-r-requires : goal.right_at-r-requires
right_at-r-requires c =
    let G = c.requires.2 in
    let h = c.loop-k-test.true in
    (omega (arith, G.classes, c.requires.1.counts.few_classes), omega (arith, h, G.few, c.requires.4.few), omega (arith, h, G.few, G.wide))

pub visit-requires : goal.visit-requires
visit-requires c =
    let a = c.args in
    let l = c.loop-k in
    let n = unkeyed-length a.graph.now (a.im.classes * a.im.classes) a.n in
    let h = c.loop-k-test.true in
    let la = c.left_at-l in
    let ra = c.right_at-r in
    let m = classes-many a.s.now a.im c.requires.0 in
    let r = pair-ranged (tables_of a.s.now) a.im.classes a.graph.now a.n l.k h c.requires.2.pairs la.result ra.result la.ensures.0 ra.ensures.0 in
    let p = pair-at (tables_of a.s.now) a.im.classes a.graph.now a.n l.k h la.result ra.result la.ensures.0 ra.ensures.0 in
    let R : Reads (state_in a.pairs.now a.terms.now a.runs.now a.n 0 0 0) l.pairs a.n = rw n at l.invariant.6.reads in (
      c.requires.0,
      c.requires.1,
      omega (arith, r.0, m),
      omega (arith, r.1, m),
      known-here (limits_of a.lim) (tables_of a.s.now) a.im.classes (pairs_in a.im.classes a.graph.now a.n) a.n a.graph.now c.requires.2 (state_in a.pairs.now a.terms.now a.runs.now a.n 0 0 0) l.pairs R c.requires.8 c.requires.1,
      terms-here (limits_of a.lim) (tables_of a.s.now) a.im.classes (pairs_in a.im.classes a.graph.now a.n) a.n a.graph.now c.requires.2 (state_in a.pairs.now a.terms.now a.runs.now a.n 0 0 0) l.pairs R c.requires.8 (state_in a.pairs.now a.terms.now a.runs.now a.n 0 0 0).pool l.k _ l.terms l.runs refl l.invariant.6.midway,
      cells_fit (limits_of a.lim) (tables_of a.s.now) a.im.classes (pairs_in a.im.classes a.graph.now a.n) a.n a.graph.now c.requires.2 (la.result, ra.result) (among (limits_of a.lim) (tables_of a.s.now) a.im.classes (pairs_in a.im.classes a.graph.now a.n) a.n a.graph.now c.requires.2 l.k h (la.result, ra.result) p),
      scratch-kept c.requires.4 l.invariant.2 l.invariant.3,
      l.invariant.6.holds,
      rooms_same l.invariant.4 l.invariant.5 c.requires.6,
      omega (arith, h, c.requires.2.few, c.requires.4.few),
      omega (arith, h, R.long),
    )

pub shape_of-pairs-in_err-c : goal.shape_of-pairs-in_err-c
shape_of-pairs-in_err-c c = omega (arith, c.loop-k.invariant.1, c.visit.auto)

pub shape_of-work-in_err-c : goal.shape_of-work-in_err-c
shape_of-work-in_err-c c = omega (arith, c.loop-k.invariant.2, c.visit.auto)

pub shape_of-flow-in_err-c : goal.shape_of-flow-in_err-c
shape_of-flow-in_err-c c = omega (arith, c.loop-k.invariant.3, c.visit.auto)

pub shape_of-terms-in_err-c : goal.shape_of-terms-in_err-c
shape_of-terms-in_err-c c = omega (arith, c.loop-k.invariant.4, c.visit.auto)

pub shape_of-runs-in_err-c : goal.shape_of-runs-in_err-c
shape_of-runs-in_err-c c = omega (arith, c.loop-k.invariant.5, c.visit.auto)

pub returns-in_err-c : goal.returns-in_err-c
returns-in_err-c c =
    let a = c.args in
    let l = c.loop-k in
    let n = unkeyed-length a.graph.now (a.im.classes * a.im.classes) a.n in
    let h = c.loop-k-test.true in
    let la = c.left_at-l in
    let ra = c.right_at-r in
    let sp = c.spend_many-sp in
    let p = pair-at (tables_of a.s.now) a.im.classes a.graph.now a.n l.k h la.result ra.result la.ensures.0 ra.ensures.0 in
    let z = visits-full c.visit.result c.visit.ensures c.in_err-c.was in
    let e : l.bud.left ≡ sp.result.budget.left + 1 = omega (arith, c.due.ensures, due-live l.k c.next_live-j.result (omega (arith, c.if-k-j.false)), enough c.due.result l.bud sp.result sp.ensures c.if-not-sp.false) in
    rw c.from_residual.ensures (turn-refused (limits_of a.lim) (tables_of a.s.now) (pairs_in a.im.classes a.graph.now a.n) (state_in a.pairs.now a.terms.now a.runs.now a.n 0 0 0) (round_at (limits_of a.lim) (tables_of a.s.now) (pairs_in a.im.classes a.graph.now a.n) (state_in a.pairs.now a.terms.now a.runs.now a.n 0 0 0) a.b.left) l.pairs l.terms l.runs l.k l.bud.left l.changed (omega (arith, n, h)) l.invariant.6 a.im.classes a.graph.now (graphs-length (limits_of a.lim) (tables_of a.s.now) a.im.classes (pairs_in a.im.classes a.graph.now a.n) a.n a.graph.now c.requires.2) (la.result, ra.result) p sp.result.budget.left z.0 e z.1)

pub overflow_add-k : goal.overflow_add-k
overflow_add-k c = record { fits = omega (arith, c.loop-k-test.true, c.requires.2.few, c.requires.4.few) }

pub loop-k-smaller : goal.loop-k-smaller
loop-k-smaller c = omega (arith, c.loop-k-test.true)

pub loop-k-preserved : goal.loop-k-preserved
loop-k-preserved c =
    let a = c.args in
    let l = c.loop-k in
    let n = unkeyed-length a.graph.now (a.im.classes * a.im.classes) a.n in
    let h = c.loop-k-test.true in
    let la = c.left_at-l in
    let ra = c.right_at-r in
    let v = c.visit in
    let sp = c.spend_many-sp in
    let p = pair-at (tables_of a.s.now) a.im.classes a.graph.now a.n l.k h la.result ra.result la.ensures.0 ra.ensures.0 in
    let z = visits-to v.result v.ensures _ c.in_ok-c.was in
    let e : l.bud.left ≡ sp.result.budget.left + 1 = omega (arith, c.due.ensures, due-live l.k c.next_live-j.result (omega (arith, c.if-k-j.false)), enough c.due.result l.bud sp.result sp.ensures c.if-not-sp.false) in (
      omega (arith, h),
      omega (arith, l.invariant.1, v.auto),
      omega (arith, l.invariant.2, v.auto),
      omega (arith, l.invariant.3, v.auto),
      omega (arith, l.invariant.4, v.auto),
      omega (arith, l.invariant.5, v.auto),
      turn_moved (limits_of a.lim) (tables_of a.s.now) (pairs_in a.im.classes a.graph.now a.n) (state_in a.pairs.now a.terms.now a.runs.now a.n 0 0 0) (round_at (limits_of a.lim) (tables_of a.s.now) (pairs_in a.im.classes a.graph.now a.n) (state_in a.pairs.now a.terms.now a.runs.now a.n 0 0 0) a.b.left) l.pairs l.terms l.runs l.k l.bud.left l.changed (omega (arith, n, h)) l.invariant.6 a.im.classes a.graph.now (graphs-length (limits_of a.lim) (tables_of a.s.now) a.im.classes (pairs_in a.im.classes a.graph.now a.n) a.n a.graph.now c.requires.2) (la.result, ra.result) p c.requires.8 sp.result.budget.left _ _ _ _ _ e z refl,
      idles-more (pairs_in a.im.classes a.graph.now a.n) l.pairs a.llive.now a.rlive.now l.k l.invariant.7 _ _ _ _ z.numbers,
    )

pub shape_of-pairs : goal.shape_of-pairs
shape_of-pairs c = c.loop-k.invariant.1

pub shape_of-work : goal.shape_of-work
shape_of-work c = c.loop-k.invariant.2

pub shape_of-flow : goal.shape_of-flow
shape_of-flow c = c.loop-k.invariant.3

pub shape_of-terms : goal.shape_of-terms
shape_of-terms c = c.loop-k.invariant.4

pub shape_of-runs : goal.shape_of-runs
shape_of-runs c = c.loop-k.invariant.5

pub returns : goal.returns
returns c =
    let a = c.args in
    let l = c.loop-k in
    let n = unkeyed-length a.graph.now (a.im.classes * a.im.classes) a.n in
    let e : l.k ≡ length (pairs_in a.im.classes a.graph.now a.n) = omega (arith, n) in
    rw e at l.invariant.6
