use Rattle.changes.specs.MarkLaws.{marked_member, members-scanned}
use Rattle.changes.specs.Readers.{members-end}
use Rattle.laws.specs.Scans.{scan-none, scan-found, scan-more, scan-end}
use Rattle.image.specs.Loaded.{classes-many, members-many}
use Rattle.spec.specs.Image.{tables_of}
use native.Mathlib.Omega.{arith}
use mathlib.Core.Path.{sym, ◌∙◌}
use Rattle.changes.proofs.any_member.Goals as goal

pub loop-m-init : goal.loop-m-init
loop-m-init c =
    let t = tables_of c.args.s.now in let x = c.members_of-span.result in scan-none (marked_member t c.args.marks.now) t.members x.from x.to

pub any_child-requires : goal.any_child-requires
any_child-requires c =
    let t = tables_of c.args.s.now in let x = c.members_of-span.result in
    (c.requires.0, c.requires.1, omega (arith, c.loop-m-test, members-end c.args.s.now c.args.im c.requires.0 c.requires.1 x c.args.c c.requires.2 c.members_of-span.ensures.0, members-many c.args.s.now c.args.im c.requires.0), c.requires.3)

pub returns-then-any_child : goal.returns-then-any_child
returns-then-any_child c =
    let t = tables_of c.args.s.now in let x = c.members_of-span.result in
    sym (sym (members-scanned t c.requires.1 c.args.marks.now x c.args.c (omega (arith, c.requires.2, classes-many c.args.s.now c.args.im c.requires.0)) c.members_of-span.ensures.0)
    ∙ scan-found (marked_member t c.args.marks.now) t.members x.from x.to (members-end c.args.s.now c.args.im c.requires.0 c.requires.1 x c.args.c c.requires.2 c.members_of-span.ensures.0) c.loop-m.m c.loop-m.invariant (record { op = 0; value = 0; first = 0; count = 0 }) (omega (arith, c.loop-m-test)) (sym c.any_child.ensures ∙ c.if-any_child.true))

pub loop-m-preserved : goal.loop-m-preserved
loop-m-preserved c =
    let t = tables_of c.args.s.now in let x = c.members_of-span.result in
    scan-more (marked_member t c.args.marks.now) t.members x.from x.to (members-end c.args.s.now c.args.im c.requires.0 c.requires.1 x c.args.c c.requires.2 c.members_of-span.ensures.0) c.loop-m.m c.loop-m.invariant (record { op = 0; value = 0; first = 0; count = 0 }) (omega (arith, c.loop-m-test)) (sym c.any_child.ensures ∙ c.if-any_child.false)

pub returns : goal.returns
returns c =
    let t = tables_of c.args.s.now in let x = c.members_of-span.result in
    sym (sym (members-scanned t c.requires.1 c.args.marks.now x c.args.c (omega (arith, c.requires.2, classes-many c.args.s.now c.args.im c.requires.0)) c.members_of-span.ensures.0)
    ∙ scan-end (marked_member t c.args.marks.now) t.members x.from x.to (members-end c.args.s.now c.args.im c.requires.0 c.requires.1 x c.args.c c.requires.2 c.members_of-span.ensures.0) c.loop-m.m c.loop-m.invariant (omega (arith, c.loop-m-test)))
