use Rattle.spec.specs.Image.{tables_of}
use Rattle.arrays.specs.Arrays.{quality_in, term_in}
use Rattle.ac_monomials.specs.Actions.{actions_at}
use Rattle.offers.specs.Offers.{work_of}
use Rattle.turns.specs.Walking.{offers-none, offers-one, found_none, found-one, found-sides, found-fits}
use native.Mathlib.Omega.{arith}
use Rattle.turns.proofs.offer_walk.Goals as goal

pub offer_transport-requires : goal.offer_transport-requires
offer_transport-requires c =
    let a = c.args in
    let t = tables_of a.s.now in
    let S = found-sides t a.l a.r a.w _ _ _ _ c.monomials-p.result c.monomials-p.ensures c.in-Some.rows c.in-Some.cols c.in-Some.is (omega (arith, c.monomials-p.auto)) (omega (arith, c.monomials-p.auto)) in
    let F = found-fits t a.l a.r a.w _ _ _ _ c.monomials-p.result c.monomials-p.ensures c.in-Some.rows c.in-Some.cols c.in-Some.is (omega (arith, c.monomials-p.auto)) (omega (arith, c.monomials-p.auto)) a.im.classes a.lim.pairs c.requires.6 in
    (c.requires.5, S, F.0, F.1, c.requires.7)

pub returns-in-None : goal.returns-in-None
returns-in-None c =
    let a = c.args in
    let t = tables_of a.s.now in
    offers-none a.lim.pairs (quality_in a.im.classes a.graph.now a.pairs.now) (term_in a.im.classes a.graph.now a.pairs.now) (actions_at t a.l a.r a.w) (work_of a.work.now a.flow.now a.best) (found_none t a.l a.r a.w _ _ _ _ c.monomials-p.result c.monomials-p.ensures c.in-None.is)

pub returns-in-Some : goal.returns-in-Some
returns-in-Some c =
    let a = c.args in
    let t = tables_of a.s.now in
    offers-one a.lim.pairs (quality_in a.im.classes a.graph.now a.pairs.now) (term_in a.im.classes a.graph.now a.pairs.now) (actions_at t a.l a.r a.w) _ (work_of a.work.now a.flow.now a.best) _ (found-one t a.l a.r a.w _ _ _ _ c.monomials-p.result c.monomials-p.ensures c.in-Some.rows c.in-Some.cols c.in-Some.is) c.offer_transport.ensures
