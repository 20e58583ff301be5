use mathlib.Core.Path.{refl}
use Rattle.query.specs.Settings.{limits_of}
use Rattle.card_to_lines.specs.LineLaws.{rooms, term-ready, term-listed, text-none, text-full}
use lib.ListN.{length}
use Rattle.card_to_lines.proofs.lines_of.Goals as goal

-- src/lib.rt:68:9
pub read_card-requires : goal.read_card-requires
read_card-requires c =
    let (h, k) = rooms _ c.args.terms.now c.args.runs.now c.limits_for-lim.ensures c.requires in (c.judge.ensures, c.requires.room.frames, c.requires.short, rw c.empty.ensures h, rw c.empty.ensures k)

-- src/lib.rt:70:26
pub list_term-requires : goal.list_term-requires
list_term-requires c =
    term-ready (limits_of c.limits_for-lim.result) c.limits_for-lim.ensures c.args.table.now c.args.text.now c.args.terms.now c.args.runs.now _ _ c.read_card.result (rw c.empty.ensures at c.read_card.ensures.0) _ c.in-Ok.is (length c.args.marks.now) c.requires.room.marks

-- src/lib.rt:52:1
pub returns-in-Ok : goal.returns-in-Ok
returns-in-Ok c =
    term-listed (limits_of c.limits_for-lim.result) c.limits_for-lim.ensures c.args.table.now c.args.text.now c.args.terms.now c.args.runs.now _ _ c.read_card.result (rw c.empty.ensures at c.read_card.ensures.0) _ c.in-Ok.is c.args.out.now _ _ c.list_term.ensures

-- src/lib.rt:52:1
pub returns-in-Err-NoFormula : goal.returns-in-Err-NoFormula
returns-in-Err-NoFormula c =
    text-none (limits_of c.limits_for-lim.result) c.limits_for-lim.ensures c.args.table.now c.args.text.now c.args.terms.now c.args.runs.now _ _ c.read_card.result (rw c.empty.ensures at c.read_card.ensures.0) (rw c.in-Err-NoFormula.field-0-is at c.in-Err-NoFormula.is) c.args.out.now _ refl

-- src/lib.rt:52:1
pub returns-in-Err-Full : goal.returns-in-Err-Full
returns-in-Err-Full c =
    text-full (limits_of c.limits_for-lim.result) c.limits_for-lim.ensures c.args.table.now c.args.text.now c.args.terms.now c.args.runs.now _ _ c.read_card.result (rw c.empty.ensures at c.read_card.ensures.0) (rw c.in-Err-Full.field-0-is at c.in-Err-Full.is) c.args.out.now _ refl
