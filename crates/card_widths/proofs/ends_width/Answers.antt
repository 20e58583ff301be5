use Rattle.card_widths.specs.WidthLaws.{marked-ends, list-ends}
use Rattle.card_widths.proofs.ends_width.Goals as goal

pub returns-then-h-eq2 : goal.returns-then-h-eq2
returns-then-h-eq2 c =
    let a = c.args in
    marked-ends a.table.now a.h c.if-h-eq2.true

pub sign_length-requires : goal.sign_length-requires
sign_length-requires c = rw c.size_u32.ensures.0 (c.requires c.if-h-eq2.false)

pub returns : goal.returns
returns c =
    let a = c.args in
    list-ends a.table.now a.h c.if-h-eq2.false c.size_u32.ensures.0 c.sign_length.ensures.0
