use mathlib.Core.Path.{ap}
use mathlib.Core.Bool.{not}
use Rattle.judge.proofs.VerdictLaws.{operations-out, classes-out, members-out, children-left}
use Rattle.laws.specs.AcceptedTurns.{failed, passed}
use Rattle.judge.proofs.counts_within.Goals as goal

pub returns-then-not-within : goal.returns-then-not-within
returns-then-not-within c = operations-out c.args.im (failed c.within.ensures (ap not c.if-not-within.true))

pub returns-then-not-within-2 : goal.returns-then-not-within-2
returns-then-not-within-2 c =
    classes-out c.args.im (passed c.within.ensures (ap not c.if-not-within.false)) (failed c.within-2.ensures (ap not c.if-not-within-2.true))

pub returns-then-not-within-3 : goal.returns-then-not-within-3
returns-then-not-within-3 c =
    members-out c.args.im (passed c.within.ensures (ap not c.if-not-within.false)) (passed c.within-2.ensures (ap not c.if-not-within-2.false)) (failed c.within-3.ensures (ap not c.if-not-within-3.true))

pub returns : goal.returns
returns c =
    children-left c.args.im (passed c.within.ensures (ap not c.if-not-within.false)) (passed c.within-2.ensures (ap not c.if-not-within-2.false)) (passed c.within-3.ensures (ap not c.if-not-within-3.false)) c.within-4.ensures
