use Rattle.arrays.specs.Arrays.{quality_in, term_in}
use Rattle.arrays.specs.ArrayLaws.{known-low}
use Rattle.cells.specs.Cells.{sides_of}
use Rattle.plan_offer.specs.Plans.{action_of}
use Rattle.plan_offer.specs.PlanLaws.{mass-le, plan-kept, plan-replaced}
use Rattle.plan_offer.proofs.offer_plan.Goals as goal

pub cheaper-requires : goal.cheaper-requires
cheaper-requires c =
    let a = c.args in
    mass-le (quality_in a.w a.graph.now a.pairs.now) (term_in a.w a.graph.now a.pairs.now) (action_of a.op (sides_of a.left.now a.rows a.right.now a.cols)) a.x.now c.plan_totals-t.result.size c.plan_totals-t.result.mass c.plan_totals-t.ensures.0 c.plan_totals-t.ensures.1
    (λ p i. let (x, y) = c.requires.2 p i in known-low a.w a.graph.now a.pairs.now c.requires.0 p.0 p.1 x y)

pub overflow_add-result : goal.overflow_add-result
overflow_add-result c = record { fits = (c.cheaper.ensures.1 c.if-cheaper.true).2 }

pub returns-then-cheaper : goal.returns-then-cheaper
returns-then-cheaper c =
    let a = c.args in
    plan-replaced (quality_in a.w a.graph.now a.pairs.now) (term_in a.w a.graph.now a.pairs.now) (action_of a.op (sides_of a.left.now a.rows a.right.now a.cols)) a.x.now c.plan_totals-t.result.size c.plan_totals-t.result.mass c.plan_totals-t.ensures.0 c.plan_totals-t.ensures.1
    a.best a.list.now c.cheaper.result c.cheaper.ensures.0 c.if-cheaper.true (c.cheaper.ensures.1 c.if-cheaper.true) c.list_plan-m.result c.list_plan-m.ensures.0 _ c.list_plan-m.ensures.1

pub returns : goal.returns
returns c =
    let a = c.args in
    plan-kept (quality_in a.w a.graph.now a.pairs.now) (term_in a.w a.graph.now a.pairs.now) (action_of a.op (sides_of a.left.now a.rows a.right.now a.cols)) a.x.now c.plan_totals-t.result.size c.plan_totals-t.result.mass c.plan_totals-t.ensures.0 c.plan_totals-t.ensures.1
    a.best a.list.now c.cheaper.result c.cheaper.ensures.0 c.if-cheaper.false
