use Rattle.card_terms.specs.Words.{words_in}
use Rattle.card_terms.specs.Reading.{WordsBelow}
use Rattle.card_cut.specs.CutLaws.{mark-behind}
use Rattle.query.specs.Settings.{limits_of}
use Rattle.card_terms.proofs.ReadLaws.{entering-start, entering-some, entering-proper, entering-free, entering-stop, entering-turn, entering-end, ending-free}
use Prim.Native.Nat.{◌≤◌, ◌<◌}
use native.Mathlib.Omega.{arith}
use lib.ListN.{length}
use Rattle.card_terms.proofs.read_terms.Goals as goal

pub loop-at-init : goal.loop-at-init
unfolding WordsBelow words_in
loop-at-init c =
    let a = c.args in
    entering-start (limits_of a.lim) a.table.now a.text.now a.terms.now a.runs.now a.frames.now c.requires.0 (record { holds = c.requires.4; rooms = c.requires.5; inside = omega arith; below = tt })

pub step-requires : goal.step-requires
step-requires c =
    let a = c.args in
    let l = c.loop-at in
    let h : l.at < length a.text.now = omega (arith, c.loop-at-test) in
    (l.invariant.stands, l.invariant.known, omega (arith, h, l.invariant.low, l.invariant.long_frames, c.requires.2), omega (arith, h, l.invariant.low, c.requires.3), entering-proper (limits_of a.lim) a.table.now a.text.now a.terms.now a.runs.now a.frames.now l.terms l.runs l.frames l.at l.top l.invariant h c.in_ok-m.m c.in_ok-m.e c.in_ok-m.ensures, entering-free (limits_of a.lim) a.table.now a.text.now a.terms.now a.runs.now a.frames.now l.terms l.runs l.frames l.at l.top l.invariant h c.in_ok-m.m c.in_ok-m.e c.in_ok-m.ensures)

pub loop-at-smaller : goal.loop-at-smaller
loop-at-smaller c =
    let a = c.args in
    let l = c.loop-at in
    let h : l.at < length a.text.now = omega (arith, c.loop-at-test) in
    let (x, y) = mark-behind a.table.now a.text.now l.at h c.in_ok-m.m c.in_ok-m.e c.in_ok-m.ensures in
    omega (arith, h, x, y)

pub loop-at-preserved : goal.loop-at-preserved
loop-at-preserved c =
    let a = c.args in
    let l = c.loop-at in
    let h : l.at < length a.text.now = omega (arith, c.loop-at-test) in
    let i = c.step in
    entering-turn (limits_of a.lim) a.table.now a.text.now a.terms.now a.runs.now a.frames.now l.terms l.runs l.frames l.at l.top l.invariant h c.in_ok-m.m c.in_ok-m.e c.in_ok-m.ensures i.ensures _ c.in_ok-top.was i.auto.terms i.auto.runs i.auto.frames

pub returns-in_err-top : goal.returns-in_err-top
returns-in_err-top c =
    let a = c.args in
    let l = c.loop-at in
    let h : l.at < length a.text.now = omega (arith, c.loop-at-test) in
    let i = c.step in
    rw c.from_residual-in_err-top.ensures (entering-stop (limits_of a.lim) a.table.now a.text.now a.terms.now a.runs.now a.frames.now l.terms l.runs l.frames l.at l.top l.invariant h c.in_ok-m.m c.in_ok-m.e c.in_ok-m.ensures i.ensures c.in_err-top.was)

pub returns-in_err-m : goal.returns-in_err-m
returns-in_err-m c =
    let a = c.args in
    let l = c.loop-at in
    absurd (entering-some (limits_of a.lim) a.table.now a.text.now a.terms.now a.runs.now a.frames.now l.terms l.runs l.frames l.at l.top l.invariant (omega (arith, c.loop-at-test)) c.in_err-m.ensures)

pub last-requires : goal.last-requires
last-requires c =
    let a = c.args in
    let l = c.loop-at in
    let h : length a.text.now ≤ l.at = omega (arith, c.loop-at-test) in
    (l.invariant.stands, l.invariant.known, omega (arith, l.invariant.low, l.invariant.inside, c.requires.3), ending-free (limits_of a.lim) a.table.now a.text.now a.terms.now a.runs.now a.frames.now l.terms l.runs l.frames l.at l.top l.invariant h)

pub returns : goal.returns
returns c =
    let a = c.args in
    let l = c.loop-at in
    let h : length a.text.now ≤ l.at = omega (arith, c.loop-at-test) in
    entering-end (limits_of a.lim) a.table.now a.text.now a.terms.now a.runs.now a.frames.now l.terms l.runs l.frames l.at l.top l.invariant h c.last.ensures
