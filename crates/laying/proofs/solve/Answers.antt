use Rattle.spec.specs.Bytes.{sum}
use Rattle.wide.specs.Value.{unsigned}
use Rattle.cost_matrix.specs.Laying.{weight-of, laid_of, given-of}
use Rattle.arrays.specs.Arrays.{quality_in}
use Rattle.cells.specs.Cells.{sides_of}
use Rattle.cells.specs.Problem.{problem_at, rows_are, cols-are, problem-wide, problem-small}
use native.Mathlib.Omega.{arith}
use mathlib.Core.Path.{ap, sym, ◌∙◌}
use lib.ListN.{length}
use Rattle.laying.proofs.solve.Goals as goal

pub total-f-requires : goal.total-f-requires
total-f-requires c = let a = c.args in omega (arith, ap length c.requires.3, rows_are a.left.now a.rows a.right.now a.cols c.requires.1, c.requires.1.few_rows)

pub lay_cells-requires : goal.lay_cells-requires
lay_cells-requires c =
    let a = c.args in (
      c.requires.0,
      c.requires.1,
      c.requires.2,
      c.requires.3,
      c.requires.4,
      weight-of (problem_at (quality_in a.w a.graph.now a.pairs.now) (sides_of a.left.now a.rows a.right.now a.cols)) c.total-f.result c.largest_mass-v.result (unsigned c.weight-x.result) (c.total-f.ensures.0 ∙ ap sum c.requires.3) c.largest_mass-v.ensures c.weight-x.ensures.0,
      c.weight-x.ensures.1,
      c.requires.5,
    )

pub solve_laid-requires : goal.solve_laid-requires
solve_laid-requires c =
    let a = c.args in
    let q = quality_in a.w a.graph.now a.pairs.now in
    let u = ap length c.requires.3 ∙ rows_are a.left.now a.rows a.right.now a.cols c.requires.1 in
    let v = ap length c.requires.4 ∙ cols-are a.left.now a.rows a.right.now a.cols c.requires.1 in (
      laid_of (problem_at q (sides_of a.left.now a.rows a.right.now a.cols)) (problem-small a.left.now a.rows a.right.now a.cols c.requires.1 a.w a.graph.now a.pairs.now (λ i. (c.shared_slice_known-2-1.given i).fits))
          a.supply.now a.demand.now a.costs.now _ (sym c.requires.3) (sym c.requires.4) (rw (problem-wide a.left.now a.rows a.right.now a.cols c.requires.1 q) c.requires.5) c.lay_cells.ensures,
      rw (u, v) (omega (arith, c.requires.5, c.lay_cells.auto)),
      rw (u, v) c.requires.6,
    )

pub returns : goal.returns
returns c =
    let a = c.args in
    let q = quality_in a.w a.graph.now a.pairs.now in
    let p = problem_at q (sides_of a.left.now a.rows a.right.now a.cols) in
    let d = c.solve_laid.ensures p
    (given-of p (problem-small a.left.now a.rows a.right.now a.cols c.requires.1 a.w a.graph.now a.pairs.now (λ i. (c.shared_slice_known-2-1.given i).fits))
    a.supply.now a.demand.now a.costs.now _ (sym c.requires.3) (sym c.requires.4) (rw (problem-wide a.left.now a.rows a.right.now a.cols c.requires.1 q) c.requires.5) c.lay_cells.ensures) in
    record { costs_are = c.lay_cells.ensures; flow_is = d.flow; is = d.is }
