use Rattle.live_pairs.specs.LiveLaws.{next-found, next-later, next-none}
use native.Mathlib.Omega.{arith}
use mathlib.Core.Path.{◌≡◌, refl, sym, ◌∙◌}
use Rattle.live_pairs.proofs.next_live.Goals as goal

pub loop-j-init : goal.loop-j-init
loop-j-init c = (c.requires.3, refl)

pub left_at-l-requires : goal.left_at-l-requires
left_at-l-requires c =
    let p = c.requires in
    let h = c.loop-j-test.true in
    (p.0, omega (arith, h, p.1), omega (arith, h, p.2))

pub right_at-r-requires : goal.right_at-r-requires
right_at-r-requires c =
    let p = c.requires in
    let h = c.loop-j-test.true in
    (p.0, omega (arith, h, p.1), omega (arith, h, p.2))

pub live-requires : goal.live-requires
live-requires c = (c.left_at-l.ensures.1, c.right_at-r.ensures.1)

pub returns-then-live : goal.returns-then-live
returns-then-live c =
    let a = c.args in
    let l = c.loop-j in
    sym (l.invariant.1 ∙ next-found a.w a.graph.now a.llive.now a.rlive.now a.n l.j c.left_at-l.result c.right_at-r.result c.loop-j-test.true c.left_at-l.ensures.0 c.right_at-r.ensures.0 c.live.result c.live.ensures c.if-live.true)

pub loop-j-preserved : goal.loop-j-preserved
loop-j-preserved c =
    let a = c.args in
    let l = c.loop-j in
    (omega (arith, c.loop-j-test.true), l.invariant.1 ∙ next-later a.w a.graph.now a.llive.now a.rlive.now a.n l.j c.left_at-l.result c.right_at-r.result c.loop-j-test.true c.left_at-l.ensures.0 c.right_at-r.ensures.0 c.live.result c.live.ensures c.if-live.false)

pub returns : goal.returns
returns c =
    let a = c.args in
    let l = c.loop-j in
    let e : a.n ≡ l.j = omega arith in
    e ∙ sym (l.invariant.1 ∙ next-none a.w a.graph.now a.llive.now a.rlive.now a.n l.j (omega (arith, c.loop-j-test.false)))
