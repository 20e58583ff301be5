use Rattle.spec.specs.Transport.{cost}
use Rattle.cost_matrix.specs.Laying.{largest-none, largest-more, largest-all}
use Rattle.arrays.specs.Arrays.{quality_in}
use Rattle.cells.specs.Cells.{with, sides_of, cells-few, cell-within}
use Rattle.cells.specs.Problem.{problem_at, problem-many, problem-cell}
use native.Mathlib.Omega.{arith}
use mathlib.Core.Path.{refl}
use Rattle.cell_costs.proofs.largest_mass.Goals as goal

pub overflow_mul-count : goal.overflow_mul-count
overflow_mul-count c = let a = c.args in record { fits = omega (arith, cells-few a.left.now a.rows a.right.now a.cols c.requires.1) }

pub loop-k-init : goal.loop-k-init
loop-k-init c = let a = c.args in (omega arith, refl, largest-none (problem_at (quality_in a.w a.graph.now a.pairs.now) (sides_of a.left.now a.rows a.right.now a.cols)))

pub cell-p-requires : goal.cell-p-requires
cell-p-requires c = (c.requires.1, omega (arith, c.loop-k.invariant.1, c.loop-k-test.true))

pub mass_of-requires : goal.mass_of-requires
mass_of-requires c =
    let a = c.args in
    let (x, y) = cell-within a.left.now a.rows a.right.now a.cols c.requires.1 c.loop-k.k (omega (arith, c.loop-k.invariant.1, c.loop-k-test.true)) {w = a.w} c.requires.2 c.cell-p.result.left c.cell-p.result.right c.cell-p.ensures in
    (c.requires.0, x, y)

pub loop-k-smaller : goal.loop-k-smaller
loop-k-smaller c = omega (arith, c.loop-k-test.true)

pub loop-k-preserved : goal.loop-k-preserved
loop-k-preserved c =
    let a = c.args in
    let q = quality_in a.w a.graph.now a.pairs.now in
    let l = c.cell-p.result.left in
    let r = c.cell-p.result.right in (
      omega (arith, c.loop-k-test.true),
      c.loop-k.invariant.1,
      largest-more (problem_at q (sides_of a.left.now a.rows a.right.now a.cols)) c.loop-k.k c.loop-k.v (omega (arith, c.loop-k.invariant.1, c.loop-k-test.true, problem-many a.left.now a.rows a.right.now a.cols c.requires.1 q)) c.loop-k.invariant.2
          (cost (q (with l r)).0 c.mass_of.result) c.larger-v.result
          (problem-cell a.left.now a.rows a.right.now a.cols c.requires.1 q c.loop-k.k (omega (arith, c.loop-k.invariant.1, c.loop-k-test.true)) l r (q (with l r)).0 c.mass_of.result c.cell-p.ensures refl c.mass_of.ensures)
          c.larger-v.ensures,
    )

pub returns : goal.returns
returns c =
    let a = c.args in
    let q = quality_in a.w a.graph.now a.pairs.now in
    largest-all (problem_at q (sides_of a.left.now a.rows a.right.now a.cols)) c.loop-k.k c.loop-k.v (omega (arith, c.loop-k.invariant.1, c.loop-k-test.false, problem-many a.left.now a.rows a.right.now a.cols c.requires.1 q)) c.loop-k.invariant.2
