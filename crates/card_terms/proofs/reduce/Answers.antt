use mathlib.Core.Bool.{true, false}
use Rattle.card_terms.specs.Reading.{Waits}
use Rattle.query.specs.Settings.{limits_of}
use Rattle.card_terms.specs.ReduceLaws.{reducing-start, reducing-end, reducing-full, reducing-turn, reducing-less}
use native.Mathlib.Omega.{arith}
use Rattle.card_terms.proofs.reduce.Goals as goal

pub loop-lim-init : goal.loop-lim-init
loop-lim-init c = let a = c.args in reducing-start (limits_of a.lim) a.table.now a.m a.terms.now a.runs.now a.frames.now a.top c.requires.0 c.requires.1 c.requires.2

pub reduce_once-requires : goal.reduce_once-requires
reduce_once-requires c =
    let l = c.loop-lim in
    let a = c.args in
    let w : Waits a.table.now a.m l.frames l.n true = rw c.loop-lim-test.true at c.waits.ensures in
    (l.invariant.stands, w.0, omega (arith, l.invariant.most, c.requires.3))

pub loop-lim-smaller : goal.loop-lim-smaller
loop-lim-smaller c =
    let l = c.loop-lim in
    let a = c.args in
    let w : Waits a.table.now a.m l.frames l.n true = rw c.loop-lim-test.true at c.waits.ensures in
    reducing-less (limits_of a.lim) a.table.now a.m a.terms.now a.runs.now a.frames.now a.top l.terms l.runs l.frames l.n l.invariant w _ _ _ c.reduce_once.result _ c.in_ok-n.was c.reduce_once.ensures

pub loop-lim-preserved : goal.loop-lim-preserved
loop-lim-preserved c =
    let l = c.loop-lim in
    let a = c.args in
    let i = c.reduce_once in
    let w : Waits a.table.now a.m l.frames l.n true = rw c.loop-lim-test.true at c.waits.ensures in
    reducing-turn (limits_of a.lim) a.table.now a.m a.terms.now a.runs.now a.frames.now a.top l.terms l.runs l.frames l.n l.invariant w _ _ _ i.result _ c.in_ok-n.was i.ensures i.auto.terms i.auto.runs i.auto.frames

pub returns-in_err-n : goal.returns-in_err-n
returns-in_err-n c =
    let l = c.loop-lim in
    let a = c.args in
    let i = c.reduce_once in
    let w : Waits a.table.now a.m l.frames l.n true = rw c.loop-lim-test.true at c.waits.ensures in
    rw c.from_residual.ensures (reducing-full (limits_of a.lim) a.table.now a.m a.terms.now a.runs.now a.frames.now a.top l.terms l.runs l.frames l.n l.invariant w _ _ _ i.result c.in_err-n.was i.ensures)

pub returns : goal.returns
returns c =
    let l = c.loop-lim in
    let a = c.args in
    let w : Waits a.table.now a.m l.frames l.n false = rw c.loop-lim-test.false at c.waits.ensures in
    reducing-end (limits_of a.lim) a.table.now a.m a.terms.now a.runs.now a.frames.now a.top l.terms l.runs l.frames l.n l.invariant w
