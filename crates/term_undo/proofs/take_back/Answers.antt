use Rattle.term_undo.specs.UndoLaws.{undoing-start, undoing-turn, undoing-end}
use Prim.Native.Nat.{◌-◌}
use native.Mathlib.Omega.{arith}
use Rattle.term_undo.proofs.take_back.Goals as goal

pub loop-i-init : goal.loop-i-init
loop-i-init c = let a = c.args in undoing-start a.n a.terms.now a.runs.now c.count-i.result c.count-i.ensures.0 c.requires.0 c.requires.1

pub undo_last-requires : goal.undo_last-requires
undo_last-requires c = let l = c.loop-i in (l.invariant.holds, omega (arith, l.invariant.counted, c.loop-i-test))

pub loop-i-preserved : goal.loop-i-preserved
loop-i-preserved c =
    let a = c.args in
    let l = c.loop-i in
    undoing-turn a.n a.terms.now a.runs.now l.terms l.runs l.i l.invariant (l.i - 1) (omega (arith, c.loop-i-test)) (omega (arith, c.loop-i-test)) _ _ c.undo_last.ensures.0 c.undo_last.ensures.1

pub returns : goal.returns
returns c =
    let a = c.args in
    let l = c.loop-i in
    undoing-end a.n a.terms.now a.runs.now l.terms l.runs l.i l.invariant (omega (arith, c.loop-i-test))
