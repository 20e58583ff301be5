use Rattle.cost_matrix.specs.Cells.{problem_of}
use Rattle.transport.proofs.Answers.{slices-given, slices-laid}
use native.Mathlib.Omega.{arith}
use Rattle.transport.proofs.solve_cells.Goals as goal

pub solve_laid-requires : goal.solve_laid-requires
solve_laid-requires c =
    let a = c.args in
    (slices-laid a.supply.now a.demand.now a.sizes.now a.masses.now a.allowed.now a.costs.now a.flow.now c.requires (λ i. (c.shared_slice_known-1.given i).fits) (λ i. (c.shared_slice_known-3-1.given i).fits) (λ i. (c.shared_slice_known-4-1.given i).fits) c.lay.new.costs c.lay.ensures, omega (arith, c.requires.costs_long), omega (arith, c.requires.flow_long))

pub returns : goal.returns
returns c =
    let a = c.args in
    c.solve_laid.ensures (problem_of a.supply.now a.demand.now a.sizes.now a.masses.now a.allowed.now) (slices-given a.supply.now a.demand.now a.sizes.now a.masses.now a.allowed.now a.costs.now a.flow.now c.requires (λ i. (c.shared_slice_known-1.given i).fits) (λ i. (c.shared_slice_known-3-1.given i).fits) (λ i. (c.shared_slice_known-4-1.given i).fits) c.lay.new.costs c.lay.ensures)
