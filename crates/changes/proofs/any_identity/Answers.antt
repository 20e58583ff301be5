use Rattle.changes.specs.Marks.{marked_in}
use Rattle.changes.specs.MarkLaws.{with_identity, operations-scanned}
use Rattle.laws.specs.Scans.{scan-none, scan-found, scan-more, scan-end}
use Rattle.image.specs.Loaded.{operations-many}
use Rattle.spec.specs.Image.{tables_of, NO-IDENTITY}
use native.Mathlib.Omega.{arith}
use mathlib.Core.Path.{sym, ◌∙◌}
use Rattle.changes.proofs.any_identity.Goals as goal

pub loop-o-init : goal.loop-o-init
loop-o-init c =
    scan-none (with_identity (marked_in c.args.marks.now)) (tables_of c.args.s.now).operations 0 c.args.im.operations

pub returns-then-marked_identity : goal.returns-then-marked_identity
returns-then-marked_identity c =
    let t = tables_of c.args.s.now in let n = operations-many c.args.s.now c.args.im c.requires.0 in
    sym (sym (operations-scanned (marked_in c.args.marks.now) t c.args.im.operations (sym n))
    ∙ scan-found (with_identity (marked_in c.args.marks.now)) t.operations 0 c.args.im.operations (omega (arith, n)) c.loop-o.o c.loop-o.invariant (record { kind = 0; flag = 0; identity = NO-IDENTITY }) (omega (arith, c.loop-o-test))
    (sym c.marked_identity.ensures ∙ c.if-marked_identity.true))

pub loop-o-preserved : goal.loop-o-preserved
loop-o-preserved c =
    let n = operations-many c.args.s.now c.args.im c.requires.0 in
    scan-more (with_identity (marked_in c.args.marks.now)) (tables_of c.args.s.now).operations 0 c.args.im.operations (omega (arith, n)) c.loop-o.o c.loop-o.invariant (record { kind = 0; flag = 0; identity = NO-IDENTITY }) (omega (arith, c.loop-o-test))
    (sym c.marked_identity.ensures ∙ c.if-marked_identity.false)

pub returns : goal.returns
returns c =
    let t = tables_of c.args.s.now in let n = operations-many c.args.s.now c.args.im c.requires.0 in
    sym (sym (operations-scanned (marked_in c.args.marks.now) t c.args.im.operations (sym n))
    ∙ scan-end (with_identity (marked_in c.args.marks.now)) t.operations 0 c.args.im.operations (omega (arith, n)) c.loop-o.o c.loop-o.invariant (omega (arith, c.loop-o-test)))
