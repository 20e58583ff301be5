use mathlib.Core.Path.{refl}
use Rattle.lines_to_card.specs.CardLaws.{call-short, call-roomy, call-goes}
use Rattle.lines_to_card.proofs.card_of_lines.Goals as goal

-- src/lib.rt:61:9
pub returns-then-short : goal.returns-then-short
returns-then-short c =
    call-short c.args.table.now c.args.lines.now c.args.frames.now c.args.marks.now c.args.terms.now c.args.runs.now c.short.result c.short.ensures c.if-short.true c.args.out.now _ refl

-- src/lib.rt:63:9
pub card_of-r-requires : goal.card_of-r-requires
card_of-r-requires c =
    call-roomy c.args.table.now c.args.lines.now c.args.frames.now c.args.marks.now c.args.terms.now c.args.runs.now c.short.result c.short.ensures c.if-short.false

-- src/lib.rt:47:1
pub returns : goal.returns
returns c =
    call-goes c.args.table.now c.args.lines.now c.args.frames.now c.args.marks.now c.args.terms.now c.args.runs.now c.short.result c.short.ensures c.if-short.false c.args.out.now _ _ c.card_of-r.ensures c.clear_all.ensures c.frames-1.given c.marks-1.given c.terms-1.given c.runs-1.given
