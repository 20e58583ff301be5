use Rattle.exact_fixed.specs.Starting.{starting-none, start-cut, start-full, start-more}
use Rattle.best_terms.specs.Starting.{kept-none}
use Rattle.rounds.specs.Graphs.{pair-at, pair-ranged}
use Rattle.budget.specs.Spending.{expired, spent}
use Rattle.terms.specs.Buffers.{pool_of}
use Rattle.image.specs.Loaded.{classes-many}
use Rattle.arrays.specs.ArrayLaws.{unkeyed-length}
use Rattle.arrays.specs.Arrays.{pairs_in}
use Rattle.query.specs.Settings.{limits_of}
use Rattle.spec.specs.Run.{starting_terms}
use Rattle.spec.specs.Image.{tables_of}
use Prim.Native.Nat.{◌*◌}
use native.Mathlib.Omega.{arith}
use mathlib.Core.Path.{◌≡◌, refl}
use lib.ListN.{length}
use Rattle.exact_fixed.proofs.start_all.Goals as goal

pub loop-k-init : goal.loop-k-init
loop-k-init c =
    let a = c.args in
    (omega arith, c.requires.5, refl, refl, refl, refl, kept-none (limits_of a.lim) (tables_of a.s.now) (pool_of a.terms.now a.runs.now) 256, starting-none (limits_of a.lim) (tables_of a.s.now) (pairs_in a.im.classes a.graph.now a.n) a.b.left a.pairs.now a.terms.now a.runs.now c.requires.6 c.requires.8)

pub shape_of-pairs-then-not-sp : goal.shape_of-pairs-then-not-sp
shape_of-pairs-then-not-sp c = c.loop-k.invariant.2

pub shape_of-terms-then-not-sp : goal.shape_of-terms-then-not-sp
shape_of-terms-then-not-sp c = c.loop-k.invariant.3

pub shape_of-runs-then-not-sp : goal.shape_of-runs-then-not-sp
shape_of-runs-then-not-sp c = c.loop-k.invariant.4

pub returns-then-not-sp : goal.returns-then-not-sp
returns-then-not-sp c =
    let a = c.args in
    let l = c.loop-k in
    let h = c.loop-k-test.true in
    let n = unkeyed-length a.graph.now (a.im.classes * a.im.classes) a.n in
    start-cut (limits_of a.lim) (tables_of a.s.now) (pairs_in a.im.classes a.graph.now a.n) (starting_terms (limits_of a.lim) (tables_of a.s.now) (pairs_in a.im.classes a.graph.now a.n) a.b.left (pool_of a.terms.now a.runs.now)) (pool_of a.terms.now a.runs.now) l.pairs l.terms l.runs l.k l.bud.left (omega (arith, n, h)) l.invariant.7 (expired l.bud c.spend-sp.result c.spend-sp.ensures c.if-not-sp.true)

pub left_at-l-requires : goal.left_at-l-requires
left_at-l-requires c =
    let a = c.args in
    let h = c.loop-k-test.true in
    (omega (arith, classes-many a.s.now a.im c.requires.0, c.requires.1.counts.few_classes), omega (arith, h, c.requires.2), omega (arith, h, c.requires.3))

pub right_at-r-requires : goal.right_at-r-requires
right_at-r-requires c =
    let a = c.args in
    let h = c.loop-k-test.true in
    (omega (arith, classes-many a.s.now a.im c.requires.0, c.requires.1.counts.few_classes), omega (arith, h, c.requires.2), omega (arith, h, c.requires.3))

pub start_one-requires : goal.start_one-requires
start_one-requires c =
    let x = c.left_at-l in
    let y = c.right_at-r in
    let a = c.args in
    let l = c.loop-k in
    let h = c.loop-k-test.true in
    let m = classes-many a.s.now a.im c.requires.0 in
    let r = pair-ranged (tables_of a.s.now) a.im.classes a.graph.now a.n l.k h c.requires.4 x.result y.result x.ensures.0 y.ensures.0 in
    let u = c.requires.7 in
    (c.requires.0, c.requires.1, omega (arith, r.0, m), omega (arith, r.1, m), omega (arith, h, c.requires.2), omega (arith, h, c.requires.5, l.invariant.2), l.invariant.7.holds, record { few = u.few; ends = u.ends; long = omega (arith, u.long, l.invariant.3); roomy = omega (arith, u.roomy, l.invariant.4) }, l.invariant.5, l.invariant.6)

pub shape_of-pairs-in_err-start_one : goal.shape_of-pairs-in_err-start_one
shape_of-pairs-in_err-start_one c = omega (arith, c.loop-k.invariant.2, c.start_one.auto)

pub shape_of-terms-in_err-start_one : goal.shape_of-terms-in_err-start_one
shape_of-terms-in_err-start_one c = omega (arith, c.loop-k.invariant.3, c.start_one.auto)

pub shape_of-runs-in_err-start_one : goal.shape_of-runs-in_err-start_one
shape_of-runs-in_err-start_one c = omega (arith, c.loop-k.invariant.4, c.start_one.auto)

pub returns-in_err-start_one : goal.returns-in_err-start_one
returns-in_err-start_one c =
    let x = c.left_at-l in
    let y = c.right_at-r in
    let a = c.args in
    let l = c.loop-k in
    let h = c.loop-k-test.true in
    let n = unkeyed-length a.graph.now (a.im.classes * a.im.classes) a.n in
    let e = spent l.bud c.spend-sp.result c.spend-sp.ensures c.if-not-sp.false in
    let p = pair-at (tables_of a.s.now) a.im.classes a.graph.now a.n l.k h x.result y.result x.ensures.0 y.ensures.0 in
    let z = rw c.in_err-start_one.was at c.start_one.ensures in
    rw c.from_residual.ensures (start-full (limits_of a.lim) (tables_of a.s.now) (pairs_in a.im.classes a.graph.now a.n) (starting_terms (limits_of a.lim) (tables_of a.s.now) (pairs_in a.im.classes a.graph.now a.n) a.b.left (pool_of a.terms.now a.runs.now)) (pool_of a.terms.now a.runs.now) l.pairs l.terms l.runs l.k l.bud.left (omega (arith, n, h)) l.invariant.7 c.spend-sp.result.budget.left z.0 e (rw (← p) z.1))

pub loop-k-preserved : goal.loop-k-preserved
loop-k-preserved c =
    let x = c.left_at-l in
    let y = c.right_at-r in
    let a = c.args in
    let l = c.loop-k in
    let h = c.loop-k-test.true in
    let n = unkeyed-length a.graph.now (a.im.classes * a.im.classes) a.n in
    let e = spent l.bud c.spend-sp.result c.spend-sp.ensures c.if-not-sp.false in
    let p = pair-at (tables_of a.s.now) a.im.classes a.graph.now a.n l.k h x.result y.result x.ensures.0 y.ensures.0 in
    let z = rw (c.in_ok-start_one.was, p) at c.start_one.ensures in
    let k = c.start_one.auto in
    (omega (arith, h), l.invariant.1, omega (arith, l.invariant.2, k), omega (arith, l.invariant.3, k), omega (arith, l.invariant.4, k), omega (arith, l.invariant.5, k), z.kept, start-more (limits_of a.lim) (tables_of a.s.now) (pairs_in a.im.classes a.graph.now a.n) (starting_terms (limits_of a.lim) (tables_of a.s.now) (pairs_in a.im.classes a.graph.now a.n) a.b.left (pool_of a.terms.now a.runs.now)) (pool_of a.terms.now a.runs.now) l.pairs l.terms l.runs l.k l.bud.left (omega (arith, n, h)) l.invariant.7 c.requires.1 c.requires.4 (omega (arith, n, c.requires.5, l.invariant.2)) c.spend-sp.result.budget.left _ _ _ _ e z)

pub shape_of-pairs : goal.shape_of-pairs
shape_of-pairs c = c.loop-k.invariant.2

pub shape_of-terms : goal.shape_of-terms
shape_of-terms c = c.loop-k.invariant.3

pub shape_of-runs : goal.shape_of-runs
shape_of-runs c = c.loop-k.invariant.4

pub returns : goal.returns
returns c =
    let a = c.args in
    let l = c.loop-k in
    let n = unkeyed-length a.graph.now (a.im.classes * a.im.classes) a.n in
    let e : l.k ≡ length (pairs_in a.im.classes a.graph.now a.n) = omega (arith, n, c.loop-k-test.false, l.invariant.0) in
    rw e at l.invariant.7
