use Rattle.augment.specs.Solves.{laid-few, none_row, none-column, none-uneven}
use native.Mathlib.Omega.{arith}
use mathlib.Core.Path.{sym, ◌∙◌}
use Rattle.solving.proofs.solve_laid.Goals as goal

pub total-f-requires : goal.total-f-requires
total-f-requires c = (laid-few c.requires.0).0

pub total-g-requires : goal.total-g-requires
total-g-requires c = (laid-few c.requires.0).1

pub returns-then-supply-eq0 : goal.returns-then-supply-eq0
returns-then-supply-eq0 c = let a = c.args in λ p G. none_row p a.supply.now a.demand.now a.costs.now G c.if-supply-eq0.true a.flow.now

pub returns-then-demand-eq0 : goal.returns-then-demand-eq0
returns-then-demand-eq0 c = let a = c.args in λ p G. none-column p a.supply.now a.demand.now a.costs.now G c.if-demand-eq0.true a.flow.now

pub solve_even-requires : goal.solve_even-requires
solve_even-requires c =
    let h = c.requires in
    (h.0, h.1, h.2, c.total-f.ensures.0, c.if-f-g.true ∙ c.total-g.ensures.0, omega (arith, c.if-supply-eq0.false), omega (arith, c.if-demand-eq0.false))

pub returns : goal.returns
returns c = let a = c.args in λ p G. none-uneven p a.supply.now a.demand.now a.costs.now G (λ e. c.if-f-g.false (c.total-f.ensures.0 ∙ e ∙ sym c.total-g.ensures.0)) a.flow.now c.empty_plan.new.flow c.empty_plan.ensures
