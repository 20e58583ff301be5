use Rattle.augment.specs.Solves.{laid-few, start_of, solved-plan, solved-none}
use native.Mathlib.Omega.{arith}
use mathlib.Core.Path.{sym, ◌∙◌}
use Rattle.augment.proofs.solve_even.Goals as goal

pub send_all-requires : goal.send_all-requires
send_all-requires c =
    let a = c.args in
    let h = c.requires in
    let few = laid-few h.0 in
    (few.0, few.1, h.1, omega (arith, h.2), h.3, start_of h.0.p a.supply.now a.demand.now a.costs.now h.0.given a.flow.now c.empty_plan.new.flow c.empty_plan.ensures)

pub returns-then-send_all : goal.returns-then-send_all
returns-then-send_all c =
    let a = c.args in
    let h = c.requires in
    λ p G. let S = start_of p a.supply.now a.demand.now a.costs.now G a.flow.now c.empty_plan.new.flow c.empty_plan.ensures in
    solved-plan p a.supply.now a.demand.now a.costs.now G h.5 h.6 (sym h.3 ∙ h.4) a.flow.now c.empty_plan.new.flow c.empty_plan.ensures c.send_all.result c.send_all.new.flow (omega (arith, h.2)) (c.send_all.ensures.0 S) c.send_all.ensures.1 c.if-send_all.true

pub returns : goal.returns
returns c =
    let a = c.args in
    let h = c.requires in
    λ p G. let S = start_of p a.supply.now a.demand.now a.costs.now G a.flow.now c.empty_plan.new.flow c.empty_plan.ensures in
    solved-none p a.supply.now a.demand.now a.costs.now G h.5 h.6 (sym h.3 ∙ h.4) a.flow.now c.empty_plan.new.flow c.empty_plan.ensures c.send_all.result c.send_all.new.flow (omega (arith, h.2)) (c.send_all.ensures.0 S) c.send_all.ensures.1 c.if-send_all.false c.empty_plan-2.new.flow c.empty_plan-2.ensures
