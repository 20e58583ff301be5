use Rattle.judge.proofs.VerdictLaws.{within_low, within-high}
use Rattle.judge.proofs.within.Goals as goal

pub returns-then-x-low : goal.returns-then-x-low
returns-then-x-low c = let a = c.args in within_low a.low a.high a.x c.if-x-low.true

pub returns : goal.returns
returns c = let a = c.args in within-high a.low a.high a.x c.if-x-low.false
