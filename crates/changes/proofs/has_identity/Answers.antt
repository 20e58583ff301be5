use Rattle.changes.specs.MarkLaws.{with_identity, operations-scanned, identity-none, identity-some}
use Rattle.laws.specs.Scans.{scan-none, scan-found, scan-more, scan-end}
use Rattle.image.specs.Loaded.{operations-many}
use Rattle.spec.specs.Image.{tables_of, the_operation, NO-IDENTITY}
use native.Mathlib.Omega.{arith}
use mathlib.Core.Bool.{true}
use mathlib.Core.Path.{sym, ◌∙◌}
use Rattle.changes.proofs.has_identity.Goals as goal

pub loop-o-init : goal.loop-o-init
loop-o-init c =
    scan-none (with_identity (λ e. true)) (tables_of c.args.s.now).operations 0 c.args.im.operations

pub returns-then-identity-ne-NO_IDENTITY : goal.returns-then-identity-ne-NO_IDENTITY
returns-then-identity-ne-NO_IDENTITY c =
    let t = tables_of c.args.s.now in let n = operations-many c.args.s.now c.args.im c.requires in
    sym (sym (operations-scanned (λ e. true) t c.args.im.operations (sym n))
    ∙ scan-found (with_identity (λ e. true)) t.operations 0 c.args.im.operations (omega (arith, n)) c.loop-o.o c.loop-o.invariant (record { kind = 0; flag = 0; identity = NO-IDENTITY }) (omega (arith, c.loop-o-test))
    (identity-some (λ e. true) (the_operation t c.loop-o.o) c.identity.ensures.0 c.if-identity-ne-NO_IDENTITY.true))

pub loop-o-preserved : goal.loop-o-preserved
loop-o-preserved c =
    let t = tables_of c.args.s.now in let n = operations-many c.args.s.now c.args.im c.requires in
    scan-more (with_identity (λ e. true)) t.operations 0 c.args.im.operations (omega (arith, n)) c.loop-o.o c.loop-o.invariant (record { kind = 0; flag = 0; identity = NO-IDENTITY }) (omega (arith, c.loop-o-test))
    (identity-none (λ e. true) (the_operation t c.loop-o.o) c.identity.ensures.0 c.if-identity-ne-NO_IDENTITY.false)

pub returns : goal.returns
returns c =
    let t = tables_of c.args.s.now in let n = operations-many c.args.s.now c.args.im c.requires in
    sym (sym (operations-scanned (λ e. true) t c.args.im.operations (sym n))
    ∙ scan-end (with_identity (λ e. true)) t.operations 0 c.args.im.operations (omega (arith, n)) c.loop-o.o c.loop-o.invariant (omega (arith, c.loop-o-test)))
