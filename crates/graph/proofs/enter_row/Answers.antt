use Prim.Native.Nat.{◌+◌}
use Rattle.entering.specs.GrowLaws.{going_end, going-full, going_on, going-small, going_start}
use Rattle.graph.specs.JoinLaws.{row-end, row_next, row_from}
use Rattle.spec.specs.Meaning.{here}
use mathlib.Core.List.{[], ◌∷◌}
use mathlib.Core.Path.{refl}
use native.Mathlib.Omega.{arith}
use Rattle.graph.proofs.enter_row.Goals as goal

pub loop-j-init : goal.loop-j-init
loop-j-init c =
    (omega arith, going_start (row_from c.args.l c.args.cols c.args.right.now 0) c.requires.2 c.requires.3, refl)

pub class_at-requires : goal.class_at-requires
class_at-requires c = omega (arith, c.requires.0, c.requires.1, c.loop-j-test.true)

pub enter_pair-requires : goal.enter_pair-requires
enter_pair-requires c =
    let l = c.args.l in
    let cols = c.args.cols in
    let list = c.args.right.now in
    let j = c.loop-j.j in
    let r = c.size_u64-r.result in
    let d = c.loop-j.invariant.1 in
    (d.holds, going-small d ((l, r) ∷ []) (row_from l cols list (j + 1)) (row_next l cols list c.requires.0 c.requires.1 j r c.class_at.result c.loop-j-test.true c.size_u64-r.ensures c.class_at.ensures) (l, r) here)

pub returns-in_err-n : goal.returns-in_err-n
returns-in_err-n c =
    let l = c.args.l in
    let cols = c.args.cols in
    let list = c.args.right.now in
    let j = c.loop-j.j in
    let r = c.size_u64-r.result in
    rw c.from_residual.ensures (going-full c.loop-j.invariant.1 ((l, r) ∷ []) (row_from l cols list (j + 1)) (row_next l cols list c.requires.0 c.requires.1 j r c.class_at.result c.loop-j-test.true c.size_u64-r.ensures c.class_at.ensures) c.enter_pair.result c.enter_pair.ensures.grows c.in_err-n.was)

pub loop-j-preserved : goal.loop-j-preserved
loop-j-preserved c =
    let l = c.args.l in
    let cols = c.args.cols in
    let list = c.args.right.now in
    let j = c.loop-j.j in
    let r = c.size_u64-r.result in
    (omega (arith, c.loop-j-test.true), going_on c.loop-j.invariant.1 ((l, r) ∷ []) (row_from l cols list (j + 1)) (row_next l cols list c.requires.0 c.requires.1 j r c.class_at.result c.loop-j-test.true c.size_u64-r.ensures c.class_at.ensures) c.enter_pair.result c.enter_pair.ensures.grows c.in_ok-n.was, omega (arith, c.loop-j.invariant.2, c.enter_pair.auto))

pub returns : goal.returns
returns c =
    going_end c.loop-j.invariant.1 (row-end c.args.l c.args.cols c.args.right.now c.requires.0 c.requires.1 c.loop-j.j c.loop-j-test.false)
