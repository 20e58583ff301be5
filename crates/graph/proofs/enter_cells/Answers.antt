use Prim.Native.Nat.{◌+◌}
use Rattle.monomial_terms.specs.Terms.{held}
use Rattle.entering.specs.GrowLaws.{going_end, going-full, going_on, going-same, going-small, going_start}
use Rattle.graph.specs.JoinLaws.{cells-end, cells-next, cells-start, cells_from, row_from}
use Rattle.spec.specs.Action.{cell_pairs}
use Rattle.spec.specs.Monomial.{pair_of}
use mathlib.Core.Path.{refl}
use native.Mathlib.Omega.{arith}
use Rattle.graph.proofs.enter_cells.Goals as goal

pub loop-i-init : goal.loop-i-init
loop-i-init c =
    let rows = c.args.rows in
    let ls = c.args.left.now in
    let cols = c.args.cols in
    let rs = c.args.right.now in
    (omega arith, going-same (going_start (cell_pairs (pair_of (held rows ls) (held cols rs))) c.requires.4 c.requires.5) (cells_from rows ls cols rs 0) (cells-start rows ls cols rs c.requires.0 c.requires.1), refl)

pub class_at-requires : goal.class_at-requires
class_at-requires c = omega (arith, c.requires.0, c.requires.1, c.loop-i-test.true)

pub enter_row-requires : goal.enter_row-requires
enter_row-requires c =
    let rows = c.args.rows in
    let ls = c.args.left.now in
    let cols = c.args.cols in
    let rs = c.args.right.now in
    let i = c.loop-i.i in
    let l = c.size_u64-l.result in
    let d = c.loop-i.invariant.1 in
    (c.requires.2, c.requires.3, d.holds, going-small d (row_from l cols rs 0) (cells_from rows ls cols rs (i + 1)) (cells-next rows ls cols rs c.requires.0 c.requires.1 i l c.class_at.result c.loop-i-test.true c.size_u64-l.ensures c.class_at.ensures))

pub returns-in_err-n : goal.returns-in_err-n
returns-in_err-n c =
    let rows = c.args.rows in
    let ls = c.args.left.now in
    let cols = c.args.cols in
    let rs = c.args.right.now in
    let i = c.loop-i.i in
    let l = c.size_u64-l.result in
    rw c.from_residual.ensures (going-full c.loop-i.invariant.1 (row_from l cols rs 0) (cells_from rows ls cols rs (i + 1)) (cells-next rows ls cols rs c.requires.0 c.requires.1 i l c.class_at.result c.loop-i-test.true c.size_u64-l.ensures c.class_at.ensures) c.enter_row.result c.enter_row.ensures c.in_err-n.was)

pub loop-i-preserved : goal.loop-i-preserved
loop-i-preserved c =
    let rows = c.args.rows in
    let ls = c.args.left.now in
    let cols = c.args.cols in
    let rs = c.args.right.now in
    let i = c.loop-i.i in
    let l = c.size_u64-l.result in
    (omega (arith, c.loop-i-test.true), going_on c.loop-i.invariant.1 (row_from l cols rs 0) (cells_from rows ls cols rs (i + 1)) (cells-next rows ls cols rs c.requires.0 c.requires.1 i l c.class_at.result c.loop-i-test.true c.size_u64-l.ensures c.class_at.ensures) c.enter_row.result c.enter_row.ensures c.in_ok-n.was, omega (arith, c.loop-i.invariant.2, c.enter_row.auto))

pub returns : goal.returns
returns c =
    going_end c.loop-i.invariant.1 (cells-end c.args.rows c.args.left.now c.args.cols c.args.right.now c.requires.0 c.requires.1 c.loop-i.i c.loop-i-test.false)
