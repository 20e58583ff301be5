use Rattle.card_cut.specs.CutLaws.{mark-behind}
use Rattle.card_syntax.specs.Reading.{reading-starts, reading-room, reading-mark, reading-stops, reading-ends}
use borrow.Author.Rules.{rules}
use native.Mathlib.Omega.{arith}
use mathlib.Core.Path.{refl, ◌∙◌}
use lib.ListN.{length}
use Rattle.card_syntax.proofs.read.Goals as goal

pub loop-at-init : goal.loop-at-init
loop-at-init c = (reading-starts c.args.table.now c.args.text.now c.args.frames.now, refl)

pub returns-in_default : goal.returns-in_default
returns-in_default c = let l = c.loop-at in let a = c.args in reading-stops a.table.now a.text.now l.frames l.p l.at l.invariant.0 (omega arith) c.in_default.ensures

-- the mark that was cut off
pub step-p-requires : goal.step-p-requires
step-p-requires c = let l = c.loop-at in let a = c.args in reading-room a.table.now a.text.now l.frames l.p l.at l.invariant.0 (length l.frames) (omega (arith, l.invariant.1, c.requires.1))

pub loop-at-smaller : goal.loop-at-smaller
loop-at-smaller c = let l = c.loop-at in let a = c.args in omega (arith, mark-behind a.table.now a.text.now l.at (omega arith) c.in-Some.m c.in-Some.e c.in-Some.ensures)

pub loop-at-preserved : goal.loop-at-preserved
loop-at-preserved c =
    let l = c.loop-at in let a = c.args in let r = c.step-p in
    (reading-mark a.table.now a.text.now l.frames l.p l.at l.invariant.0 (omega arith) c.in-Some.m c.in-Some.e r.new.frames r.result c.in-Some.ensures r.ensures.0 (r.ensures.1 l.invariant.0.phase l.invariant.0.passes), search rules)

pub returns : goal.returns
returns c = let l = c.loop-at in let a = c.args in c.is_done.ensures l.frames l.invariant.0.phase l.invariant.0.passes ∙ reading-ends a.table.now a.text.now l.frames l.p l.at l.invariant.0 (omega arith)
