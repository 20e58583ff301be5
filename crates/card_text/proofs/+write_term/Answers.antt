use Rattle.std.proofs.Common.{arith}
use Rattle.terms.specs.Buffers.{pool_of}
use Rattle.card_text.specs.TermLaws.{between-wrote, series-wrote, series-end, gap-room, child-room, copies-room, series-turn}
use Rattle.card_text.proofs.+write_term.Goals as goal

-- src/lib.rt:152:21
pub write_gap_after-b-requires : goal.write_gap_after-b-requires
write_gap_after-b-requires t c =
    let a = c.args in
    let f = c.in-Series in
    gap-room a.table.now a.terms.now a.runs.now f.h f.from f.to c.write_opening-at.new.out c.write_opening-at.result c.loop-i.invariant c.loop-i-test.true

-- src/lib.rt:153:21
pub write_term-c-requires-in-loop-i : goal.write_term-c-requires-in-loop-i
write_term-c-requires-in-loop-i t c =
    let a = c.args in
    let f = c.in-Series in
    let S = c.in-Series.ensures.1 in
    let b = S.below c.loop-i.i c.loop-i.invariant.begun c.loop-i-test.true in (
      omega arith,
      (
        c.requires.0,
        omega arith,
        rw c.child.ensures.0 (S.signed c.loop-i.i c.loop-i.invariant.begun c.loop-i-test.true),
        child-room a.table.now a.terms.now a.runs.now f.h f.from f.to c.write_opening-at.new.out c.write_opening-at.result c.loop-i.invariant c.loop-i-test.true c.write_gap_after-b.ensures c.child.ensures.0,
      ),
    )

-- src/lib.rt:154:49
pub overflow_sub-times : goal.overflow_sub-times
overflow_sub-times t c =
    let S = c.in-Series.ensures.1 in
    omega (arith, S.counted c.loop-i.i c.loop-i.invariant.begun c.loop-i-test.true, c.times.ensures)

-- src/lib.rt:154:17
pub write_copies-at-requires : goal.write_copies-at-requires
write_copies-at-requires t c =
    let a = c.args in
    let f = c.in-Series in
    copies-room a.table.now a.terms.now a.runs.now f.h f.from f.to c.write_opening-at.new.out c.write_opening-at.result c.loop-i.invariant c.loop-i-test.true c.write_gap_after-b.ensures c.child.ensures.0 c.write_term-c-in-loop-i.ensures c.times.ensures

-- src/lib.rt:151:13
pub loop-i-preserved : goal.loop-i-preserved
loop-i-preserved t c =
    let a = c.args in
    let f = c.in-Series in
    series-turn a.table.now a.terms.now a.runs.now f.h f.from f.to c.write_opening-at.new.out c.write_opening-at.result c.loop-i.invariant c.loop-i-test.true c.write_gap_after-b.ensures c.child.ensures.0 c.write_term-c-in-loop-i.ensures c.times.ensures c.write_copies-at.ensures

-- src/lib.rt:126:1
pub returns-in-Between : goal.returns-in-Between
returns-in-Between t c =
    let a = c.args in
    between-wrote a.table.now (pool_of a.terms.now a.runs.now) a.m a.a c.in-Between.x c.in-Between.ensures.1 a.out.now a.at0 c.requires.3 c.write_where-b.ensures c.write_term-c.ensures c.write_between-d.ensures c.write_term-e.ensures c.write_where.ensures

-- src/lib.rt:126:1
pub returns-after-loop-i : goal.returns-after-loop-i
returns-after-loop-i t c =
    let a = c.args in
    let f = c.in-Series in
    series-wrote a.table.now a.terms.now a.runs.now a.m a.a f.h f.from f.to c.in-Series.ensures.1 a.out.now a.at0 c.requires.3 c.write_opening-at.ensures
    (series-end a.table.now a.terms.now a.runs.now f.h f.from f.to c.write_opening-at.new.out c.write_opening-at.result c.loop-i.invariant c.loop-i-test.false c.write_closing.ensures)
