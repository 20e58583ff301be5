use Rattle.std.proofs.Common.{arith}
use Rattle.numbering.specs.VisitLaws.{child-below, within, visiting-start, visiting-turn, visit-room, visit-length, visit-walk, seen-already}
use Rattle.numbering.proofs.+number.Goals as goal

-- src/lib.rt:33:9
pub returns-then-marks-t-ne0 : goal.returns-then-marks-t-ne0
returns-then-marks-t-ne0 t c =
    let a = c.args in
    seen-already a.terms.now a.runs.now a.marks.now a.n0 a.t 0 c.requires.0 c.requires.1 c.if-marks-t-ne0.true c.requires.2

-- src/lib.rt:38:5
pub loop-i-init : goal.loop-i-init
loop-i-init t c =
    let a = c.args in
    visiting-start a.terms.now a.runs.now a.marks.now a.n0 a.t c.first-end.result c.requires.0 c.requires.1 c.first-i.result c.first-i.ensures.0 c.first-end.ensures.0 c.requires.2

-- src/lib.rt:39:56
pub bounds-runs-i : goal.bounds-runs-i
bounds-runs-i t c = omega (arith, within c.args.terms.now c.args.runs.now c.requires.0 c.args.t c.requires.1)

-- src/lib.rt:39:9
pub number-n-requires : goal.number-n-requires
number-n-requires t c =
    let a = c.args in
    let b = child-below a.terms.now a.runs.now c.requires.0 a.t c.requires.1 c.loop-i.i c.loop-i.invariant.begun (omega arith) in
    (omega arith, (c.requires.0, omega (arith, c.requires.1), c.loop-i.invariant.walk.numbered))

-- src/lib.rt:38:5
pub loop-i-preserved : goal.loop-i-preserved
loop-i-preserved t c =
    let a = c.args in
    visiting-turn a.terms.now a.runs.now a.marks.now a.n0 a.t c.first-end.result c.requires.0 c.requires.1 c.loop-i.marks c.loop-i.i c.loop-i.n _ c.child.result c.number-n.result c.first-end.ensures.0 c.loop-i.invariant (omega arith) c.child.ensures.0 c.number-n.ensures.0 c.number-n.ensures.1

-- src/lib.rt:42:5
pub settle-requires : goal.settle-requires
settle-requires t c =
    let a = c.args in
    let b = visit-room a.terms.now a.runs.now a.marks.now a.n0 a.t c.first-end.result c.requires.0 c.requires.1 c.loop-i.marks c.loop-i.i c.loop-i.n c.loop-i.invariant (omega arith) c.if-marks-t-ne0.false c.requires.2 in
    let r = c.loop-i.invariant.walk.numbered.room in
    (omega (arith, b, r), omega (arith, c.requires.1, r), omega (arith, b, c.requires.0.few), omega (arith, c.requires.0.few, c.requires.1))

-- src/lib.rt:43:5
pub overflow_add-result : goal.overflow_add-result
overflow_add-result t c =
    let a = c.args in
    omega (arith, visit-room a.terms.now a.runs.now a.marks.now a.n0 a.t c.first-end.result c.requires.0 c.requires.1 c.loop-i.marks c.loop-i.i c.loop-i.n c.loop-i.invariant (omega arith) c.if-marks-t-ne0.false c.requires.2, c.requires.0.few)

-- src/lib.rt:28:1
pub returns : goal.returns
returns t c =
    let a = c.args in
    (visit-length a.terms.now a.runs.now a.marks.now a.n0 a.t c.first-end.result c.requires.0 c.requires.1 c.loop-i.marks c.loop-i.i c.loop-i.n c.loop-i.invariant (omega arith) c.if-marks-t-ne0.false c.requires.2, visit-walk a.terms.now a.runs.now a.marks.now a.n0 a.t c.first-end.result c.requires.0 c.requires.1 c.loop-i.marks c.loop-i.i c.loop-i.n c.loop-i.invariant (omega arith) c.if-marks-t-ne0.false c.requires.2 _ c.settle.ensures)
