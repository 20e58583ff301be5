use Rattle.card_widths.specs.WidthLaws.{bracketed-width, bare-width}
use Rattle.card_widths.proofs.infix_width.Goals as goal

pub returns-then-bracketed : goal.returns-then-bracketed
returns-then-bracketed c =
    let a = c.args in
    bracketed-width a.table.now a.o c.sign_length-n.ensures.0 c.if-bracketed.true

pub returns : goal.returns
returns c =
    let a = c.args in
    bare-width a.table.now a.o c.sign_length-n.ensures.0 c.if-bracketed.false
