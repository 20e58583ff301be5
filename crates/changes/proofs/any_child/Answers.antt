use Rattle.changes.specs.Marks.{marked_in}
use Rattle.changes.specs.MarkLaws.{marked_child, children-scanned}
use Rattle.changes.specs.Readers.{children-end, child-few}
use Rattle.laws.specs.Scans.{scan-none, scan-found, scan-more, scan-end}
use Rattle.image.specs.Loaded.{members-many, children-many}
use Rattle.spec.specs.Image.{tables_of}
use native.Mathlib.Omega.{arith}
use mathlib.Core.Path.{sym, ap, ◌∙◌}
use Rattle.changes.proofs.any_child.Goals as goal

pub loop-k-init : goal.loop-k-init
loop-k-init c =
    let x = c.children_of-span.result in
    scan-none (marked_child c.args.marks.now) (tables_of c.args.s.now).children x.from x.to

pub child_class-requires : goal.child_class-requires
child_class-requires c =
    (c.requires.0, omega (arith, c.loop-k-test, children-end c.args.s.now c.args.im c.requires.0 c.requires.1 c.children_of-span.result c.args.m c.requires.2 c.children_of-span.ensures.0, children-many c.args.s.now c.args.im c.requires.0))

pub marked-requires : goal.marked-requires
marked-requires c =
    omega (arith, c.requires.3, child-few c.args.s.now c.args.im c.requires.0 c.requires.1 c.children_of-span.result c.args.m c.requires.2 c.children_of-span.ensures.0 c.loop-k.k c.loop-k.invariant.from (omega (arith, c.loop-k-test)) c.child_class.ensures.0)

pub returns-then-marked : goal.returns-then-marked
returns-then-marked c =
    let t = tables_of c.args.s.now in let x = c.children_of-span.result in
    sym (sym (children-scanned t c.requires.1 c.args.marks.now x c.args.m (omega (arith, c.requires.2, members-many c.args.s.now c.args.im c.requires.0)) c.children_of-span.ensures.0)
    ∙ scan-found (marked_child c.args.marks.now) t.children x.from x.to (children-end c.args.s.now c.args.im c.requires.0 c.requires.1 x c.args.m c.requires.2 c.children_of-span.ensures.0) c.loop-k.k c.loop-k.invariant (0, 0) (omega (arith, c.loop-k-test))
    (ap (marked_in c.args.marks.now) (sym c.child_class.ensures.0) ∙ sym c.marked.ensures ∙ c.if-marked.true))

pub loop-k-preserved : goal.loop-k-preserved
loop-k-preserved c =
    let x = c.children_of-span.result in
    scan-more (marked_child c.args.marks.now) (tables_of c.args.s.now).children x.from x.to (children-end c.args.s.now c.args.im c.requires.0 c.requires.1 x c.args.m c.requires.2 c.children_of-span.ensures.0) c.loop-k.k c.loop-k.invariant (0, 0) (omega (arith, c.loop-k-test))
    (ap (marked_in c.args.marks.now) (sym c.child_class.ensures.0) ∙ sym c.marked.ensures ∙ c.if-marked.false)

pub returns : goal.returns
returns c =
    let t = tables_of c.args.s.now in let x = c.children_of-span.result in
    sym (sym (children-scanned t c.requires.1 c.args.marks.now x c.args.m (omega (arith, c.requires.2, members-many c.args.s.now c.args.im c.requires.0)) c.children_of-span.ensures.0)
    ∙ scan-end (marked_child c.args.marks.now) t.children x.from x.to (children-end c.args.s.now c.args.im c.requires.0 c.requires.1 x c.args.m c.requires.2 c.children_of-span.ensures.0) c.loop-k.k c.loop-k.invariant (omega (arith, c.loop-k-test)))
