use mathlib.Core.Path.{refl}
use Rattle.card_to_lines.specs.LineLaws.{call-short, call-roomy, call-goes}
use Rattle.card_to_lines.proofs.lines_of_card.Goals as goal

-- src/lib.rt:107:9
pub returns-then-too_short : goal.returns-then-too_short
returns-then-too_short c =
    call-short c.args.table.now c.args.text.now c.args.frames.now c.args.marks.now c.args.terms.now c.args.runs.now c.too_short.result c.too_short.ensures c.if-too_short.true c.args.out.now _ refl

-- src/lib.rt:109:9
pub lines_of-r-requires : goal.lines_of-r-requires
lines_of-r-requires c =
    call-roomy c.args.table.now c.args.text.now c.args.frames.now c.args.marks.now c.args.terms.now c.args.runs.now c.too_short.result c.too_short.ensures c.if-too_short.false

-- src/lib.rt:87:1
pub returns : goal.returns
returns c =
    call-goes c.args.table.now c.args.text.now c.args.frames.now c.args.marks.now c.args.terms.now c.args.runs.now c.too_short.result c.too_short.ensures c.if-too_short.false c.args.out.now _ _ c.lines_of-r.ensures c.clear_all.ensures c.frames-1.given c.marks-1.given c.terms-1.given c.runs-1.given
