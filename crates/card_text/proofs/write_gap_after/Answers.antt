use mathlib.Core.List.{[]}
use lib.ListN.{length}
use Rattle.card_text.specs.PieceLaws.{room-no, wrote-yes, wrote-no}
use Rattle.decimals.specs.WriteLaws.{wrote_none}
use Rattle.card_forms.specs.Forms.{gap_text}
use Rattle.card_text.proofs.write_gap_after.Goals as goal

pub returns-then-first : goal.returns-then-first
returns-then-first c = wrote-yes [] (gap_text c.args.h) c.if-first.true (wrote_none c.args.out.now c.args.at)

pub write_gap-requires : goal.write_gap-requires
write_gap-requires c = room-no [] (gap_text c.args.h) c.args.at (length c.args.out.now) c.if-first.false c.requires

pub returns : goal.returns
returns c = wrote-no [] (gap_text c.args.h) c.if-first.false c.write_gap.ensures
