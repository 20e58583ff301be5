use Rattle.terms.specs.Buffers.{part}
use Rattle.interning.specs.ChainLaws.{walk_start, walk_turn, walk-found, walk_none, walk-falls}
use native.Mathlib.Omega.{arith}
use mathlib.Core.Path.{◌≡◌}
use Rattle.interning.proofs.look_up.Goals as goal

pub loop-t-init : goal.loop-t-init
loop-t-init c =
    let a = c.args in
    walk_start a.terms.now a.runs.now a.h a.v (part a.list.now 0 a.n) c.requires.0 a.bucket c.at_u32-t.result c.requires.2 c.requires.3 c.at_u32-t.ensures.0

pub returns-then-is_term : goal.returns-then-is_term
returns-then-is_term c =
    let a = c.args in
    walk-found a.terms.now a.runs.now a.h a.v (part a.list.now 0 a.n) c.requires.0 c.loop-t.t (omega arith) c.loop-t.invariant (rw c.if-is_term.true at c.is_term.ensures)

pub loop-t-smaller : goal.loop-t-smaller
loop-t-smaller c =
    let a = c.args in
    walk-falls a.terms.now a.runs.now a.h a.v (part a.list.now 0 a.n) c.requires.0 c.loop-t.t c.at_u32-t-in-loop-t.result (omega arith) c.loop-t.invariant c.at_u32-t-in-loop-t.ensures.0

pub loop-t-preserved : goal.loop-t-preserved
loop-t-preserved c =
    let a = c.args in
    walk_turn a.terms.now a.runs.now a.h a.v (part a.list.now 0 a.n) c.requires.0 c.loop-t.t c.at_u32-t-in-loop-t.result (omega arith) c.loop-t.invariant (rw c.if-is_term.false at c.is_term.ensures) c.at_u32-t-in-loop-t.ensures.0

pub returns : goal.returns
returns c =
    let a = c.args in
    let e : c.loop-t.t ≡ 0 = omega arith in
    walk_none a.terms.now a.runs.now a.h a.v (part a.list.now 0 a.n) c.requires.0 (rw e at c.loop-t.invariant)
