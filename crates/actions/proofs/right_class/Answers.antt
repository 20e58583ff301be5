use Rattle.actions.proofs.Readers.{left-member, right-member, straight-child, straight-joined, crossed-two, crossed-child, crossed-joined}
use Rattle.image.specs.Loaded.{children-many}
use native.Mathlib.Omega.{arith}
use borrow.Author.Rules.{rules}
use Rattle.actions.proofs.right_class.Goals as goal

pub first_child-i-requires : goal.first_child-i-requires
first_child-i-requires c = (c.requires.0, omega (arith, left-member c.args.s.now c.args.im c.requires.0 c.requires.1 c.args.v c.requires.2, right-member c.args.s.now c.args.im c.requires.0 c.requires.1 c.args.v c.requires.2))

pub overflow_add-i : goal.overflow_add-i
overflow_add-i c =
    record { fits = omega (arith, c.requires.1.counts.few_children, children-many c.args.s.now c.args.im c.requires.0, straight-child c.args.s.now c.args.im c.requires.0 c.requires.1 c.args.v c.requires.2 c.args.k c.requires.3 c.first_child-i.ensures.0) }

pub child_class-requires : goal.child_class-requires
child_class-requires c = (c.requires.0, omega (arith, straight-child c.args.s.now c.args.im c.requires.0 c.requires.1 c.args.v c.requires.2 c.args.k c.requires.3 c.first_child-i.ensures.0))

pub returns-then-v-eq0 : goal.returns-then-v-eq0
returns-then-v-eq0 c =
    straight-joined c.args.s.now c.args.im c.requires.0 c.requires.1 c.args.v c.requires.2 c.args.k c.requires.3 c.first_child-i.ensures.0 c.if-v-eq0.true c.child_class.ensures.0

pub overflow_sub-i : goal.overflow_sub-i
overflow_sub-i c =
    omega (arith, crossed-two c.args.s.now c.args.im c.requires.0 c.requires.1 c.args.v c.requires.2 c.args.k c.requires.3 c.first_child-i.ensures.0 c.if-v-eq0.false)

pub child_class-requires-2 : goal.child_class-requires-2
child_class-requires-2 c = (c.requires.0, omega (arith, crossed-child c.args.s.now c.args.im c.requires.0 c.requires.1 c.args.v c.requires.2 c.args.k c.requires.3 c.first_child-i.ensures.0 c.if-v-eq0.false))

pub returns : goal.returns
returns c =
    crossed-joined c.args.s.now c.args.im c.requires.0 c.requires.1 c.args.v c.requires.2 c.args.k c.requires.3 c.first_child-i.ensures.0 c.if-v-eq0.false c.child_class-2.ensures.0
