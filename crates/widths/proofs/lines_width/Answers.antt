use Rattle.widths.specs.WidthLaws.{lines-nil, lines-length}
use Prim.Native.Nat.{◌-◌}
use native.Mathlib.Omega.{arith}
use mathlib.Core.Path.{◌≡◌, ap}
use lib.ListN.{length}
use Rattle.widths.proofs.lines_width.Goals as goal

pub loop-k-init : goal.loop-k-init
loop-k-init c =
    let a = c.args in
    let e : a.n - 0 ≡ a.n = omega arith in
    (omega arith, omega arith, rw e (omega arith))

pub line_width-w-requires : goal.line_width-w-requires
line_width-w-requires c =
    (c.requires.0, c.requires.1, omega arith)

pub overflow_add-w : goal.overflow_add-w
overflow_add-w c =
    omega (arith, c.requires.1.few, c.line_width-w.ensures)

pub loop-k-preserved : goal.loop-k-preserved
loop-k-preserved c =
    let a = c.args in
    omega (arith, c.line_width-w.ensures, lines-length a.terms.now a.runs.now a.marks.now c.loop-k.k a.n (omega arith))

pub returns : goal.returns
returns c =
    let a = c.args in
    omega (arith, c.requires.1.few, ap length (lines-nil a.terms.now a.runs.now a.marks.now c.loop-k.k a.n (omega arith)))
