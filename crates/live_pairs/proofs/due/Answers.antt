use native.Mathlib.Omega.{arith}
use Rattle.live_pairs.specs.LiveLaws.{due-idle, due-live}
use Rattle.live_pairs.proofs.due.Goals as goal

pub returns-then-k-j : goal.returns-then-k-j
returns-then-k-j c =
    let a = c.args in
    due-idle a.k a.j c.if-k-j.true

pub returns : goal.returns
returns c =
    let a = c.args in
    due-live a.k a.j (omega (arith, c.if-k-j.false))
