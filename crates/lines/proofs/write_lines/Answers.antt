use Rattle.widths.specs.WidthLaws.{lines_cons, lines-nil}
use Rattle.widths.specs.Lines.{line_in, lines_in}
use Rattle.decimals.specs.WriteLaws.{left-start, left-turn, left_end, left-room}
use Prim.Native.Nat.{◌-◌, ◌+◌}
use native.Mathlib.Omega.{arith}
use mathlib.Core.Path.{◌≡◌}
use Rattle.lines.proofs.write_lines.Goals as goal

pub loop-k-init : goal.loop-k-init
loop-k-init c =
    let a = c.args in
    let e : a.n - 0 ≡ a.n = omega arith in
    (omega arith, rw e (left-start (lines_in a.terms.now a.runs.now a.marks.now 0 a.n) a.out.now a.at0 c.requires.2))

pub write_line-at-requires : goal.write_line-at-requires
write_line-at-requires c =
    let a = c.args in
    (c.requires.0, c.requires.1, omega arith, left-room (line_in a.terms.now a.runs.now a.marks.now c.loop-k.k) (lines_in a.terms.now a.runs.now a.marks.now (c.loop-k.k + 1) (a.n - (c.loop-k.k + 1))) (lines_cons a.terms.now a.runs.now a.marks.now c.loop-k.k a.n (omega arith)) c.loop-k.invariant.1)

pub loop-k-preserved : goal.loop-k-preserved
loop-k-preserved c =
    let a = c.args in
    (omega arith, left-turn (line_in a.terms.now a.runs.now a.marks.now c.loop-k.k) (lines_in a.terms.now a.runs.now a.marks.now (c.loop-k.k + 1) (a.n - (c.loop-k.k + 1))) (lines_cons a.terms.now a.runs.now a.marks.now c.loop-k.k a.n (omega arith)) c.loop-k.invariant.1 c.write_line-at.ensures)

pub returns : goal.returns
returns c =
    let a = c.args in
    left_end (lines-nil a.terms.now a.runs.now a.marks.now c.loop-k.k a.n (omega arith)) c.loop-k.invariant.1
