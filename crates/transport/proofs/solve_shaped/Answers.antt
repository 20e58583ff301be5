use Rattle.cost_matrix.specs.Cells.{problem_of}
use Rattle.augment.specs.SolvedLaws.{solves-plan}
use native.Mathlib.Omega.{arith}
use mathlib.Core.Path.{sym, ◌∙◌}
use lib.ListN.{length}
use Rattle.cost_matrix.specs.Places.{cells_fit}
use Rattle.transport.proofs.Answers.{wrong-shape, no-plan, plan-low, planned, shape-right}
use Rattle.transport.proofs.solve_shaped.Goals as goal

pub solve_cells-requires : goal.solve_cells-requires
solve_cells-requires c = let a = c.args in let e = sym c.if-shaped.true ∙ c.shaped.ensures in let h = shape-right a.supply.now a.demand.now a.sizes.now a.masses.now a.allowed.now a.plan.now a.costs.now a.flow.now c.requires.0 c.requires.1 e in h.0

pub copy_plan-requires : goal.copy_plan-requires
copy_plan-requires c = let a = c.args in let e = sym c.if-shaped.true ∙ c.shaped.ensures in let h = shape-right a.supply.now a.demand.now a.sizes.now a.masses.now a.allowed.now a.plan.now a.costs.now a.flow.now c.requires.0 c.requires.1 e in let z = h.0 in let q = cells_fit (length a.supply.now) (length a.demand.now) z.rows z.columns in let y = c.solve_cells.new.flow in let P = rw c.if-solve_cells.true at (solves-plan (problem_of a.supply.now a.demand.now a.sizes.now a.masses.now a.allowed.now) a.flow.now c.solve_cells.new.flow c.solve_cells.result c.solve_cells.ensures) in (omega (arith, h.1, z.flow_long), λ k hk. plan-low a.supply.now a.demand.now a.sizes.now a.masses.now a.allowed.now a.plan.now y (λ i. (c.shared_slice_known-1.given i).fits) P k (omega (arith, h.1)))

pub plan_total-s-requires : goal.plan_total-s-requires
plan_total-s-requires c = let a = c.args in let e = sym c.if-shaped.true ∙ c.shaped.ensures in let h = shape-right a.supply.now a.demand.now a.sizes.now a.masses.now a.allowed.now a.plan.now a.costs.now a.flow.now c.requires.0 c.requires.1 e in let z = h.0 in let q = cells_fit (length a.supply.now) (length a.demand.now) z.rows z.columns in (omega (arith, h.1, z.sizes_long), omega (arith, h.1, z.allowed_long), omega (arith, h.1))

pub plan_total-m-requires : goal.plan_total-m-requires
plan_total-m-requires c = let a = c.args in let e = sym c.if-shaped.true ∙ c.shaped.ensures in let h = shape-right a.supply.now a.demand.now a.sizes.now a.masses.now a.allowed.now a.plan.now a.costs.now a.flow.now c.requires.0 c.requires.1 e in let z = h.0 in let q = cells_fit (length a.supply.now) (length a.demand.now) z.rows z.columns in (omega (arith, h.1, z.masses_long), omega (arith, h.1, z.allowed_long), omega (arith, h.1))

pub returns-then-solve_cells : goal.returns-then-solve_cells
returns-then-solve_cells c = let a = c.args in let e = sym c.if-shaped.true ∙ c.shaped.ensures in let h = shape-right a.supply.now a.demand.now a.sizes.now a.masses.now a.allowed.now a.plan.now a.costs.now a.flow.now c.requires.0 c.requires.1 e in let z = h.0 in let q = cells_fit (length a.supply.now) (length a.demand.now) z.rows z.columns in let y = c.solve_cells.new.flow in let P = rw c.if-solve_cells.true at (solves-plan (problem_of a.supply.now a.demand.now a.sizes.now a.masses.now a.allowed.now) a.flow.now c.solve_cells.new.flow c.solve_cells.result c.solve_cells.ensures) in planned a.supply.now a.demand.now a.sizes.now a.masses.now a.allowed.now a.plan.now y c.copy_plan.new.plan (record { size = c.plan_total-s.result; mass = c.plan_total-m.result }) e h.1 z.sizes_long (omega arith) P c.copy_plan.ensures c.plan_total-s.ensures c.plan_total-m.ensures

pub returns-then-shaped : goal.returns-then-shaped
returns-then-shaped c = let a = c.args in let e = sym c.if-shaped.true ∙ c.shaped.ensures in no-plan a.supply.now a.demand.now a.sizes.now a.masses.now a.allowed.now a.plan.now c.solve_cells.new.flow e (rw c.if-solve_cells.false at (solves-plan (problem_of a.supply.now a.demand.now a.sizes.now a.masses.now a.allowed.now) a.flow.now c.solve_cells.new.flow c.solve_cells.result c.solve_cells.ensures))

pub returns : goal.returns
returns c = let a = c.args in wrong-shape a.supply.now a.demand.now a.sizes.now a.masses.now a.allowed.now a.plan.now (sym c.if-shaped.false ∙ c.shaped.ensures)
