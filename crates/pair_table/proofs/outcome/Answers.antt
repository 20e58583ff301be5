use Rattle.pair_table.specs.Enter.{outcome-at, outcome-new, outcome-full}
use Rattle.pair_table.proofs.outcome.Goals as goal

pub returns-then-at-min : goal.returns-then-at-min
returns-then-at-min c = outcome-at _ _ _ _ c.min.ensures c.if-at-min.true

pub returns-then-count-room : goal.returns-then-count-room
returns-then-count-room c = outcome-new _ _ _ _ _ c.min.ensures c.if-at-min.false c.room.ensures c.if-count-room.true

pub returns : goal.returns
returns c = outcome-full _ _ _ _ _ c.min.ensures c.if-at-min.false c.room.ensures c.if-count-room.false
