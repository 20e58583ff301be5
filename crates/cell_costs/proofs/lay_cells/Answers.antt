use Rattle.spec.specs.Transport.{cost}
use Rattle.wide.specs.Value.{unsigned}
use Rattle.cost_matrix.specs.Places.{div-in}
use Rattle.cost_matrix.specs.Laying.{laying-none, laying-more, laying-all}
use Rattle.arrays.specs.Arrays.{quality_in}
use Rattle.cells.specs.Cells.{sides_of, cells-few, some-col, cell-within}
use Rattle.cells.specs.Problem.{problem_at, rows_are, cols-are, problem-wide, problem-cell}
use Prim.Native.Nat.{◌<◌, ◌*◌, ◌/◌, ◌%◌}
use native.Mathlib.Omega.{arith}
use mathlib.Core.Path.{refl, ap, sym}
use lib.ListN.{length, get_or}
use Rattle.cell_costs.proofs.lay_cells.Goals as goal

pub overflow_mul-count : goal.overflow_mul-count
overflow_mul-count c = let a = c.args in record { fits = omega (arith, cells-few a.left.now a.rows a.right.now a.cols c.requires.1) }

pub loop-k-init : goal.loop-k-init
loop-k-init c = let a = c.args in (omega arith, refl, laying-none (problem_at (quality_in a.w a.graph.now a.pairs.now) (sides_of a.left.now a.rows a.right.now a.cols)) a.costs.now)

pub cell-p-requires : goal.cell-p-requires
cell-p-requires c = (c.requires.1, omega (arith, c.loop-k.invariant.1, c.loop-k-test.true))

pub size_of-size-requires : goal.size_of-size-requires
size_of-size-requires c =
    let a = c.args in
    let (x, y) = cell-within a.left.now a.rows a.right.now a.cols c.requires.1 c.loop-k.k (omega (arith, c.loop-k.invariant.1, c.loop-k-test.true)) {w = a.w} c.requires.2 c.cell-p.result.left c.cell-p.result.right c.cell-p.ensures in
    (c.requires.0, x, y)

pub mass_of-mass-requires : goal.mass_of-mass-requires
mass_of-mass-requires c =
    let a = c.args in
    let (x, y) = cell-within a.left.now a.rows a.right.now a.cols c.requires.1 c.loop-k.k (omega (arith, c.loop-k.invariant.1, c.loop-k-test.true)) {w = a.w} c.requires.2 c.cell-p.result.left c.cell-p.result.right c.cell-p.ensures in
    (c.requires.0, x, y)

pub nonzero_div-k : goal.nonzero_div-k
nonzero_div-k c = let a = c.args in omega (arith, some-col a.left.now a.rows a.right.now a.cols c.requires.1 c.loop-k.k (omega (arith, c.loop-k.invariant.1, c.loop-k-test.true)))

pub offset_bounds-supply-k : goal.offset_bounds-supply-k
offset_bounds-supply-k c =
    let a = c.args in
    let h : c.loop-k.k < a.rows * a.cols = omega (arith, c.loop-k.invariant.1, c.loop-k-test.true) in
    record { fits = omega (arith, (div-in a.rows a.cols c.loop-k.k h).0, c.requires.1.few_rows) }

pub bounds-supply-k : goal.bounds-supply-k
bounds-supply-k c =
    let a = c.args in
    let h : c.loop-k.k < a.rows * a.cols = omega (arith, c.loop-k.invariant.1, c.loop-k-test.true) in
    omega (arith, (div-in a.rows a.cols c.loop-k.k h).0, ap length c.requires.3, rows_are a.left.now a.rows a.right.now a.cols c.requires.1)

pub nonzero_rem-k : goal.nonzero_rem-k
nonzero_rem-k c = let a = c.args in omega (arith, some-col a.left.now a.rows a.right.now a.cols c.requires.1 c.loop-k.k (omega (arith, c.loop-k.invariant.1, c.loop-k-test.true)))

pub offset_bounds-demand-k : goal.offset_bounds-demand-k
offset_bounds-demand-k c =
    let a = c.args in
    let h : c.loop-k.k < a.rows * a.cols = omega (arith, c.loop-k.invariant.1, c.loop-k-test.true) in
    record { fits = omega (arith, (div-in a.rows a.cols c.loop-k.k h).1, c.requires.1.few_cols) }

pub bounds-demand-k : goal.bounds-demand-k
bounds-demand-k c =
    let a = c.args in
    let h : c.loop-k.k < a.rows * a.cols = omega (arith, c.loop-k.invariant.1, c.loop-k-test.true) in
    omega (arith, (div-in a.rows a.cols c.loop-k.k h).1, ap length c.requires.4, cols-are a.left.now a.rows a.right.now a.cols c.requires.1)

pub lay_cell-requires : goal.lay_cell-requires
lay_cell-requires c = (omega (arith, c.loop-k.invariant.1, c.loop-k-test.true, c.loop-k.invariant.2.size, c.requires.7), c.requires.6)

pub loop-k-smaller : goal.loop-k-smaller
loop-k-smaller c = omega (arith, c.loop-k-test.true)

pub loop-k-preserved : goal.loop-k-preserved
loop-k-preserved c =
    let a = c.args in
    let q = quality_in a.w a.graph.now a.pairs.now in
    let k = c.loop-k.k in
    let h : k < a.rows * a.cols = omega (arith, c.loop-k.invariant.1, c.loop-k-test.true) in (
      omega (arith, c.loop-k-test.true),
      c.loop-k.invariant.1,
      laying-more (problem_at q (sides_of a.left.now a.rows a.right.now a.cols)) a.costs.now k c.loop-k.costs c.loop-k.invariant.2 (rw (problem-wide a.left.now a.rows a.right.now a.cols c.requires.1 q) h)
          (cost c.size_of-size.result c.mass_of-mass.result) (unsigned a.x) (get_or a.supply.now (k / a.cols) 0) (get_or a.demand.now (k % a.cols) 0)
          (problem-cell a.left.now a.rows a.right.now a.cols c.requires.1 q k h c.cell-p.result.left c.cell-p.result.right c.size_of-size.result c.mass_of-mass.result c.cell-p.ensures c.size_of-size.ensures c.mass_of-mass.ensures) c.requires.5
          (λ i. get_or (c.requires.3 i) (k / sym (cols-are a.left.now a.rows a.right.now a.cols c.requires.1) i) 0) (λ i. get_or (c.requires.4 i) (k % sym (cols-are a.left.now a.rows a.right.now a.cols c.requires.1) i) 0) _ c.lay_cell.ensures,
    )

pub shape_of-costs : goal.shape_of-costs
shape_of-costs c = c.loop-k.invariant.2.size

pub returns : goal.returns
returns c =
    let a = c.args in
    let q = quality_in a.w a.graph.now a.pairs.now in
    laying-all (problem_at q (sides_of a.left.now a.rows a.right.now a.cols)) a.costs.now c.loop-k.k c.loop-k.costs c.loop-k.invariant.2 (omega (arith, c.loop-k.invariant.1, c.loop-k-test.false, problem-wide a.left.now a.rows a.right.now a.cols c.requires.1 q))
