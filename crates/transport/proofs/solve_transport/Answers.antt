use Rattle.std.proofs.Common.{rules}
use native.Mathlib.Omega.{arith}
use lib.ListN.{length}
use Rattle.transport.proofs.Answers.{gate-costs, gate-flow, gate-open}
use Rattle.transport.proofs.solve_transport.Goals as goal

pub returns-then-costs-lt-COSTS : goal.returns-then-costs-lt-COSTS
returns-then-costs-lt-COSTS c = let a = c.args in gate-costs a.supply.now a.demand.now a.sizes.now a.masses.now a.allowed.now a.plan.now a.costs.now a.flow.now c.if-costs-lt-COSTS.true

pub returns-then-flow-lt-CELLS : goal.returns-then-flow-lt-CELLS
returns-then-flow-lt-CELLS c = let a = c.args in gate-flow a.supply.now a.demand.now a.sizes.now a.masses.now a.allowed.now a.plan.now a.costs.now a.flow.now (omega arith) c.if-flow-lt-CELLS.true

pub returns : goal.returns
returns c = let a = c.args in gate-open a.supply.now a.demand.now a.sizes.now a.masses.now a.allowed.now a.plan.now a.costs.now a.flow.now (omega arith) (omega arith) c.solve_shaped-r.new.plan c.solve_shaped-r.result c.solve_shaped-r.ensures c.fill.new.self c.fill-2.new.self (length c.solve_shaped-r.new.costs) (length c.solve_shaped-r.new.flow) (search rules) (omega arith) (search rules) (omega arith)
