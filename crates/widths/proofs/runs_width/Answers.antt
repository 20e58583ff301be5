use Rattle.widths.specs.WidthLaws.{runs-nil, runs-length}
use native.Mathlib.Omega.{arith}
use mathlib.Core.Path.{ap}
use lib.ListN.{length}
use Rattle.widths.proofs.runs_width.Goals as goal

pub loop-i-init : goal.loop-i-init
loop-i-init c =
    (omega arith, omega (arith, c.requires.0), omega arith, omega arith)

pub run_width-n-requires : goal.run_width-n-requires
run_width-n-requires c =
    c.requires.3 c.loop-i.i c.loop-i.invariant.0 (omega arith)

pub loop-i-preserved : goal.loop-i-preserved
loop-i-preserved c =
    let a = c.args in
    omega (arith, c.run_width-n.ensures, runs-length a.runs.now a.marks.now c.loop-i.i a.to (omega arith))

pub returns : goal.returns
returns c =
    let a = c.args in
    omega (arith, c.requires.0, c.requires.1, ap length (runs-nil a.runs.now a.marks.now c.loop-i.i a.to (omega arith)))
