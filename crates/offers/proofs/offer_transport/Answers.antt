use Rattle.offers.specs.OfferLaws.{fits_kept, offer-none, plan-cells, plan-low, offer-some}
use Rattle.arrays.specs.Arrays.{quality_in, term_in}
use Prim.Native.Nat.{◌≤◌}
use native.Mathlib.Omega.{arith}
use lib.ListN.{length}
use borrow.Author.Rules.{rules}
use Rattle.offers.proofs.offer_transport.Goals as goal

pub offer_plan-requires : goal.offer_plan-requires
offer_plan-requires c =
    let a = c.args in
    let q = quality_in a.w a.graph.now a.pairs.now in
    let of = term_in a.w a.graph.now a.pairs.now in
    let h : a.lim.pairs ≤ length a.work.now = omega (arith, c.requires.4.costs) in (
      c.requires.0,
      c.requires.1,
      c.requires.2,
      plan-cells a.left.now a.rows a.right.now a.cols c.requires.1 q of a.op a.lim.pairs a.work.now a.flow.now a.best h _ _ c.plan_transport.result c.plan_transport.ensures c.if-plan_transport.true,
      plan-low a.left.now a.rows a.right.now a.cols c.requires.1 q of a.op a.lim.pairs a.work.now a.flow.now a.best h _ _ c.plan_transport.result c.plan_transport.ensures c.if-plan_transport.true,
      fits_kept {n = length a.work.now} (search rules) (omega (arith, c.requires.3, c.requires.4.costs)),
    )

pub returns-then-plan_transport : goal.returns-then-plan_transport
returns-then-plan_transport c =
    let a = c.args in
    let q = quality_in a.w a.graph.now a.pairs.now in
    let of = term_in a.w a.graph.now a.pairs.now in
    let h : a.lim.pairs ≤ length a.work.now = omega (arith, c.requires.4.costs) in
    offer-some a.left.now a.rows a.right.now a.cols c.requires.1 q of a.op a.lim.pairs a.work.now a.flow.now a.best h _ _ c.plan_transport.result c.plan_transport.ensures c.if-plan_transport.true _ _ c.offer_plan.ensures.0 c.offer_plan.ensures.1

pub returns : goal.returns
returns c =
    let a = c.args in
    let q = quality_in a.w a.graph.now a.pairs.now in
    let of = term_in a.w a.graph.now a.pairs.now in
    let h : a.lim.pairs ≤ length a.work.now = omega (arith, c.requires.4.costs) in
    offer-none a.left.now a.rows a.right.now a.cols c.requires.1 q of a.op a.lim.pairs a.work.now a.flow.now a.best h _ _ c.plan_transport.result c.plan_transport.ensures c.if-plan_transport.false
