use Rattle.live_pairs.specs.LiveLaws.{live-left, live-none}
use Rattle.live_pairs.proofs.live.Goals as goal

pub returns-then-llive-l-gt0 : goal.returns-then-llive-l-gt0
returns-then-llive-l-gt0 c =
    let a = c.args in
    live-left a.llive.now a.rlive.now a.l a.r c.if-llive-l-gt0.true

pub returns : goal.returns
returns c =
    let a = c.args in
    live-none a.llive.now a.rlive.now a.l a.r c.if-llive-l-gt0.false
