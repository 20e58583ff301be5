use mathlib.Core.Path.{ap}
use mathlib.Core.Bool.{not}
use Rattle.operation_rules.proofs.OperationLaws.{identity-kind, identity-class}
use Rattle.laws.specs.AcceptedTurns.{failed, passed}
use borrow.Author.Tests.{eq-eqb}
use mathlib.Core.Path.{refl}
use Rattle.operation_rules.proofs.identity_right.Goals as goal

pub returns-then-e-eq-NO_IDENTITY : goal.returns-then-e-eq-NO_IDENTITY
returns-then-e-eq-NO_IDENTITY c = rw (eq-eqb c.args.e 65535 c.if-e-eq-NO_IDENTITY.true) refl

pub returns-then-not-is_ac : goal.returns-then-not-is_ac
returns-then-not-is_ac c =
    let a = c.args in
    identity-kind a.k a.e a.classes c.if-e-eq-NO_IDENTITY.false (failed c.is_ac.ensures (ap not c.if-not-is_ac.true))

pub returns : goal.returns
returns c =
    let a = c.args in
    identity-class a.k a.e a.classes c.if-e-eq-NO_IDENTITY.false (passed c.is_ac.ensures (ap not c.if-not-is_ac.false))
