use mathlib.Core.Path.{refl}
use Rattle.query.specs.Settings.{limits_of}
use Rattle.lines_to_card.specs.CardLaws.{rooms, last-ready, lines-broken, lines-full, lines-written}
use lib.ListN.{length}
use Rattle.lines_to_card.proofs.card_of.Goals as goal

-- src/lib.rt:38:9
pub read_lines-requires : goal.read_lines-requires
read_lines-requires c =
    (c.requires.frames, rooms _ c.limits_for-lim.ensures c.requires)

-- src/lib.rt:40:25
pub write_last-requires : goal.write_last-requires
write_last-requires c =
    last-ready (limits_of c.limits_for-lim.result) c.limits_for-lim.ensures c.args.table.now c.args.lines.now _ _ _ _ _ _ c.read_lines.result c.in-Ok.is c.read_lines.ensures (length c.args.marks.now) c.requires.marks

-- src/lib.rt:25:1
pub returns-in-Ok : goal.returns-in-Ok
returns-in-Ok c =
    lines-written (limits_of c.limits_for-lim.result) c.limits_for-lim.ensures c.args.table.now c.args.lines.now _ _ _ _ _ _ c.read_lines.result c.in-Ok.is c.read_lines.ensures c.args.out.now _ _ c.write_last.ensures.0

-- src/lib.rt:25:1
pub returns-in-Err-Broken : goal.returns-in-Err-Broken
returns-in-Err-Broken c =
    lines-broken (limits_of c.limits_for-lim.result) c.limits_for-lim.ensures c.args.table.now c.args.lines.now _ _ _ _ _ _ c.read_lines.result (rw c.in-Err-Broken.field-0-is at c.in-Err-Broken.is) c.read_lines.ensures c.args.out.now _ refl

-- src/lib.rt:25:1
pub returns-in-Err-Full : goal.returns-in-Err-Full
returns-in-Err-Full c =
    lines-full (limits_of c.limits_for-lim.result) c.limits_for-lim.ensures c.args.table.now c.args.lines.now _ _ _ _ _ _ c.read_lines.result (rw c.in-Err-Full.field-0-is at c.in-Err-Full.is) c.read_lines.ensures c.args.out.now _ refl
