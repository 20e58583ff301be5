use Rattle.widths.specs.WidthLaws.{runs-cons, runs-nil}
use Rattle.widths.specs.Lines.{run_in, runs_in}
use Rattle.decimals.specs.WriteLaws.{left-start, left-turn, left_end, left-room}
use Prim.Native.Nat.{◌-◌, ◌+◌}
use native.Mathlib.Omega.{arith}
use lib.ListN.{get_or}
use Rattle.lines.proofs.write_runs.Goals as goal

pub loop-i-init : goal.loop-i-init
loop-i-init c =
    let a = c.args in
    (omega arith, omega (arith, c.requires.0), left-start (runs_in a.runs.now a.marks.now a.from (a.to - a.from)) a.out.now a.at0 c.requires.3)

pub write_run-at-requires : goal.write_run-at-requires
write_run-at-requires c =
    let a = c.args in
    (c.requires.2 c.loop-i.i c.loop-i.invariant.0 (omega arith), left-room (run_in a.marks.now (get_or a.runs.now c.loop-i.i 0)) (runs_in a.runs.now a.marks.now (c.loop-i.i + 1) (a.to - (c.loop-i.i + 1))) (runs-cons a.runs.now a.marks.now c.loop-i.i a.to (omega arith)) c.loop-i.invariant.2)

pub loop-i-preserved : goal.loop-i-preserved
loop-i-preserved c =
    let a = c.args in
    (omega (arith, c.loop-i.invariant.0), omega arith, left-turn (run_in a.marks.now (get_or a.runs.now c.loop-i.i 0)) (runs_in a.runs.now a.marks.now (c.loop-i.i + 1) (a.to - (c.loop-i.i + 1))) (runs-cons a.runs.now a.marks.now c.loop-i.i a.to (omega arith)) c.loop-i.invariant.2 c.write_run-at.ensures)

pub returns : goal.returns
returns c =
    let a = c.args in
    left_end (runs-nil a.runs.now a.marks.now c.loop-i.i a.to (omega arith)) c.loop-i.invariant.2
