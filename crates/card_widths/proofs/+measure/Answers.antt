use Rattle.std.proofs.Common.{refl, ◌∙◌, arith}
use Rattle.terms.specs.Buffers.{pool_of}
use Rattle.card_widths.specs.WidthLaws.{charged-end, child-over, child-width, run-over, charged-turn, between-over, left_over, right-left, after-ends}
use Rattle.card_widths.proofs.+measure.Goals as goal

pub returns-in_err-b-in-Between : goal.returns-in_err-b-in-Between
returns-in_err-b-in-Between t c =
    let a = c.args in
    rw c.from_residual.ensures (between-over a.table.now (pool_of a.terms.now a.runs.now) a.m a.a c.in-Between.x c.in-Between.ensures.1 a.room0 c.infix_width.ensures c.in_err-b-in-Between.ensures refl)

pub returns-in_err-c-in-Between : goal.returns-in_err-c-in-Between
returns-in_err-c-in-Between t c =
    let a = c.args in
    rw c.from_residual-in_err-c-in-Between.ensures (left_over a.table.now (pool_of a.terms.now a.runs.now) a.m a.a c.in-Between.x c.in-Between.ensures.1 a.room0 c.infix_width.ensures c.in_ok-b-in-Between.ensures refl c.in_err-c-in-Between.ensures refl)

pub returns-in_ok-c-in-Between : goal.returns-in_ok-c-in-Between
returns-in_ok-c-in-Between t c =
    let a = c.args in
    c.measure-in-Between.ensures ∙ right-left a.table.now (pool_of a.terms.now a.runs.now) a.m a.a c.in-Between.x c.in-Between.ensures.1 a.room0 c.infix_width.ensures c.in_ok-b-in-Between.ensures refl c.in_ok-c-in-Between.ensures refl

pub measure-requires-in-loop-i : goal.measure-requires-in-loop-i
measure-requires-in-loop-i t c =
    let S = c.in-Series.ensures.1 in
    let b = S.below c.loop-i.i c.loop-i.invariant.begun c.loop-i-test.true in
    (omega arith, (c.requires.0, omega arith, rw c.child.ensures.0 (S.signed c.loop-i.i c.loop-i.invariant.begun c.loop-i-test.true)))

pub returns-in_err-b-in-Series : goal.returns-in_err-b-in-Series
returns-in_err-b-in-Series t c =
    let a = c.args in
    let f = c.in-Series in
    let S = c.in-Series.ensures.1 in
    rw c.from_residual-in_err-b-in-Series.ensures (child-over a.table.now a.terms.now a.runs.now f.h f.from f.to c.in_ok-room-in-Series.room c.loop-i.invariant c.loop-i-test.true (S.counted c.loop-i.i c.loop-i.invariant.begun c.loop-i-test.true) c.child.ensures.0 c.in_err-b-in-Series.ensures refl ∙ after-ends a.table.now a.terms.now a.runs.now a.m a.a f.h f.from f.to S a.room0 c.ends_width.ensures c.in_ok-room-in-Series.ensures refl)

pub overflow_sub-room : goal.overflow_sub-room
overflow_sub-room t c =
    let a = c.args in
    let f = c.in-Series in
    let S = c.in-Series.ensures.1 in
    (child-width a.table.now a.terms.now a.runs.now f.h f.from f.to c.in_ok-room-in-Series.room c.loop-i.invariant c.loop-i-test.true (S.counted c.loop-i.i c.loop-i.invariant.begun c.loop-i-test.true) c.child.ensures.0 c.in_ok-b-in-Series.ensures refl).0

pub charge_run-requires : goal.charge_run-requires
charge_run-requires t c =
    let S = c.in-Series.ensures.1 in
    omega (arith, S.counted c.loop-i.i c.loop-i.invariant.begun c.loop-i-test.true, c.times.ensures)

pub returns-in_err-room-in-Series-2 : goal.returns-in_err-room-in-Series-2
returns-in_err-room-in-Series-2 t c =
    let a = c.args in
    let f = c.in-Series in
    let S = c.in-Series.ensures.1 in
    rw c.from_residual-in_err-room-in-Series-2.ensures (run-over a.table.now a.terms.now a.runs.now f.h f.from f.to c.in_ok-room-in-Series.room c.loop-i.invariant c.loop-i-test.true (S.counted c.loop-i.i c.loop-i.invariant.begun c.loop-i-test.true) c.child.ensures.0 c.in_ok-b-in-Series.ensures refl c.times.ensures refl c.in_err-room-in-Series-2.ensures refl ∙ after-ends a.table.now a.terms.now a.runs.now a.m a.a f.h f.from f.to S a.room0 c.ends_width.ensures c.in_ok-room-in-Series.ensures refl)

pub loop-i-preserved : goal.loop-i-preserved
loop-i-preserved t c =
    let a = c.args in
    let f = c.in-Series in
    let S = c.in-Series.ensures.1 in
    charged-turn a.table.now a.terms.now a.runs.now f.h f.from f.to c.in_ok-room-in-Series.room c.loop-i.invariant c.loop-i-test.true (S.counted c.loop-i.i c.loop-i.invariant.begun c.loop-i-test.true) c.child.ensures.0 c.in_ok-b-in-Series.ensures refl c.times.ensures refl c.in_ok-room-in-Series-2.ensures refl

pub returns-after-loop-i : goal.returns-after-loop-i
returns-after-loop-i t c =
    let a = c.args in
    let f = c.in-Series in
    let S = c.in-Series.ensures.1 in
    charged-end a.table.now a.terms.now a.runs.now f.h f.from f.to c.in_ok-room-in-Series.room c.loop-i.invariant c.loop-i-test.false
    ∙ after-ends a.table.now a.terms.now a.runs.now a.m a.a f.h f.from f.to S a.room0 c.ends_width.ensures c.in_ok-room-in-Series.ensures refl
