use native.Mathlib.Omega.{arith}
use Rattle.card_judge.specs.JudgeLaws.{marking-start, marking-turn, marking-end}
use Rattle.card_judge.proofs.mark_children.Goals as goal

pub loop-i-init : goal.loop-i-init
loop-i-init c = let a = c.args in marking-start a.runs.now a.marks.now a.from a.to c.requires.0

pub put_u16-requires : goal.put_u16-requires
put_u16-requires c =
    let i = c.loop-i.i in
    (omega (arith, c.child.ensures.0, c.requires.3 i c.loop-i.invariant.begun (omega arith), c.loop-i.invariant.same), omega arith)

pub loop-i-preserved : goal.loop-i-preserved
loop-i-preserved c =
    let a = c.args in
    marking-turn a.runs.now a.marks.now a.from a.to c.loop-i.invariant (omega arith) c.child.ensures.0 c.put_u16.ensures

pub shape_of-marks : goal.shape_of-marks
shape_of-marks c = c.loop-i.invariant.same

pub returns : goal.returns
returns c = let a = c.args in marking-end a.runs.now a.marks.now a.from a.to c.loop-i.invariant (omega arith)
