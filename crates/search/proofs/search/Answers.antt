use Rattle.search_laws.specs.SearchLoop.{begins, turn, ends, not-reached, reached, ran-start, ran-turn, ran-end, searched-net, unseen-sink, seen-sink}
use Rattle.search_laws.specs.Fits.{none_left}
use Prim.Native.Nat.{◌+◌}
use mathlib.Core.Path.{◌≡◌, ◌∙◌}
use Rattle.net.specs.Net.{first_of, left}
use Rattle.search_laws.specs.Edges.{visited}
use Rattle.search.proofs.search.Goals as goal

pub loop-net-init : goal.loop-net-init
loop-net-init c = let a = c.args in (λ R. rw c.begin.ensures (begins R a.net.now c.requires.4), ran-start a.costs.now a.flow.now a.left.now a.r a.c c.begin.new.net)

pub leave-u-requires : goal.leave-u-requires
leave-u-requires c = let R = c.requires.5 in let t = turn R c.loop-net.net (c.loop-net.invariant.0 R) c.loop-net-test.true in (t.head, t.node, c.loop-net-test.true)

pub loop-net-smaller : goal.loop-net-smaller
loop-net-smaller c = let a = c.args in
    let e : c.visit.new.net ≡ visited a.costs.now a.flow.now a.left.now a.r a.c (first_of c.loop-net.net) (left c.loop-net.net)
    = c.visit.ensures ∙ (λ i. visited a.costs.now a.flow.now a.left.now a.r a.c (c.leave-u.ensures.0 i) (c.leave-u.ensures.1 i)) in
    let R = c.requires.5 in let t = turn R c.loop-net.net (c.loop-net.invariant.0 R) c.loop-net-test.true in rw e t.less

pub loop-net-preserved : goal.loop-net-preserved
loop-net-preserved c = let a = c.args in
    let e : c.visit.new.net ≡ visited a.costs.now a.flow.now a.left.now a.r a.c (first_of c.loop-net.net) (left c.loop-net.net)
    = c.visit.ensures ∙ (λ i. visited a.costs.now a.flow.now a.left.now a.r a.c (c.leave-u.ensures.0 i) (c.leave-u.ensures.1 i)) in
    (λ R. rw e (turn R c.loop-net.net (c.loop-net.invariant.0 R) c.loop-net-test.true).next, rw e (ran-turn a.costs.now a.flow.now a.left.now a.r a.c c.begin.new.net c.loop-net.net c.loop-net.invariant.1 c.loop-net-test.true (turn c.requires.5 c.loop-net.net (c.loop-net.invariant.0 c.requires.5) c.loop-net-test.true).less))

pub returns-then-net-r-eq0 : goal.returns-then-net-r-eq0
returns-then-net-r-eq0 c =
    let a = c.args in
    let l = c.loop-net in
    (searched-net a.costs.now a.flow.now a.left.now a.r a.c l.net a.net.now c.begin.new.net c.begin.ensures (ran-end a.costs.now a.flow.now a.left.now a.r a.c c.begin.new.net l.net l.invariant.1 (λ h. none_left c.loop-net-test.false h)), unseen-sink l.net (1 + a.r + a.c) c.if-net-r-eq0.true, λ R. not-reached R c.loop-net.net (ends R c.loop-net.net (c.loop-net.invariant.0 R) (λ h. none_left c.loop-net-test.false h)) c.if-net-r-eq0.true)

pub returns : goal.returns
returns c =
    let a = c.args in
    let l = c.loop-net in
    (searched-net a.costs.now a.flow.now a.left.now a.r a.c l.net a.net.now c.begin.new.net c.begin.ensures (ran-end a.costs.now a.flow.now a.left.now a.r a.c c.begin.new.net l.net l.invariant.1 (λ h. none_left c.loop-net-test.false h)), seen-sink l.net (1 + a.r + a.c) c.if-net-r-eq0.false, λ R. reached R c.loop-net.net (ends R c.loop-net.net (c.loop-net.invariant.0 R) (λ h. none_left c.loop-net-test.false h)) c.if-net-r-eq0.false)
