use Rattle.spec.specs.Action.{cell_pairs}
use Rattle.arrays.specs.Arrays.{quality_in}
use Rattle.cells.specs.Cells.{sides_of, cells-few}
use Rattle.cells.specs.Problem.{problem_at, problem-many, problem-at}
use Rattle.plan_offer.specs.Sums.{summed-none, summed-more, summed-all}
use native.Mathlib.Omega.{arith}
use mathlib.Core.Path.{refl, sym, ◌∙◌}
use lib.ListN.{get_or}
use Rattle.plan_offer.proofs.plan_totals.Goals as goal

pub loop-k-init : goal.loop-k-init
loop-k-init c = let a = c.args in (omega arith, summed-none (problem_at (quality_in a.w a.graph.now a.pairs.now) (sides_of a.left.now a.rows a.right.now a.cols)).cells a.x.now)

pub add_cell-t-requires : goal.add_cell-t-requires
add_cell-t-requires c = (c.requires.0, c.requires.1, c.requires.2, omega (arith, c.requires.3, c.loop-k-test.true), c.requires.4 c.loop-k.k c.loop-k-test.true)

pub loop-k-smaller : goal.loop-k-smaller
loop-k-smaller c = omega (arith, c.loop-k-test.true)

pub loop-k-preserved : goal.loop-k-preserved
loop-k-preserved c =
    let a = c.args in
    let q = quality_in a.w a.graph.now a.pairs.now in
    let k = c.loop-k.k in
    let p = get_or (cell_pairs (sides_of a.left.now a.rows a.right.now a.cols)) k (0, 0) in (
      omega (arith, c.loop-k-test.true),
      rw c.add_cell-t.ensures
          (summed-more (problem_at q (sides_of a.left.now a.rows a.right.now a.cols)).cells a.x.now k c.loop-k.t c.loop-k.invariant.1
          (problem-many a.left.now a.rows a.right.now a.cols c.requires.1 q ∙ sym c.requires.3) (omega (arith, c.requires.3, cells-few a.left.now a.rows a.right.now a.cols c.requires.1)) c.loop-k-test.true (q p).0 (q p).1
          (problem-at a.left.now a.rows a.right.now a.cols c.requires.1 q k (omega (arith, c.requires.3, c.loop-k-test.true))) (get_or a.x.now k 0) refl (c.requires.4 k c.loop-k-test.true) (c.shared_slice_known-2-1.given _).fits (c.shared_slice_known-2-1.given _).fits),
    )

pub returns : goal.returns
returns c =
    let a = c.args in
    summed-all (problem_at (quality_in a.w a.graph.now a.pairs.now) (sides_of a.left.now a.rows a.right.now a.cols)).cells a.x.now c.loop-k.k c.loop-k.t c.loop-k.invariant.1 (omega (arith, c.loop-k-test.false))
