use mathlib.Core.List.{[]}
use lib.ListN.{length}
use Rattle.card_text.specs.PieceLaws.{room-yes, wrote-yes, wrote-no}
use Rattle.decimals.specs.WriteLaws.{wrote_none}
use Rattle.card_text.proofs.write_where.Goals as goal

pub text-requires : goal.text-requires
text-requires c = room-yes c.args.b.now [] c.args.at (length c.args.out.now) c.if-stands.true c.requires

pub returns-then-stands : goal.returns-then-stands
returns-then-stands c = wrote-yes c.args.b.now [] c.if-stands.true c.text.ensures

pub returns : goal.returns
returns c = wrote-no c.args.b.now [] c.if-stands.false (wrote_none c.args.out.now c.args.at)
