use Rattle.card_widths.specs.WidthLaws.{literal-width}
use Rattle.card_widths.proofs.literal_width.Goals as goal

pub returns : goal.returns
returns c =
    let a = c.args in
    literal-width a.v a.o (rw c.long_u32.ensures.0 at c.digits-a.ensures.0) (rw c.long_u32-2.ensures.0 at c.digits.ensures.0)
