use Rattle.actions.proofs.Readers.{left-member, right-member, left-child, left-joined}
use Rattle.image.specs.Loaded.{children-many}
use native.Mathlib.Omega.{arith}
use Rattle.actions.proofs.left_class.Goals as goal

pub first_child-requires : goal.first_child-requires
first_child-requires c = (c.requires.0, omega (arith, left-member c.args.s.now c.args.im c.requires.0 c.requires.1 c.args.v c.requires.2, right-member c.args.s.now c.args.im c.requires.0 c.requires.1 c.args.v c.requires.2))

pub overflow_add-first_child : goal.overflow_add-first_child
overflow_add-first_child c =
    record { fits = omega (arith, c.first_child.ensures.1, c.requires.1.counts.few_children, children-many c.args.s.now c.args.im c.requires.0, left-child c.args.s.now c.args.im c.requires.0 c.requires.1 c.args.v c.requires.2 c.args.k c.requires.3 c.first_child.ensures.0) }

pub child_class-requires : goal.child_class-requires
child_class-requires c = (c.requires.0, omega (arith, left-child c.args.s.now c.args.im c.requires.0 c.requires.1 c.args.v c.requires.2 c.args.k c.requires.3 c.first_child.ensures.0))

pub returns : goal.returns
returns c =
    left-joined c.args.s.now c.args.im c.requires.0 c.requires.1 c.args.v c.requires.2 c.args.k c.requires.3 c.first_child.ensures.0 c.child_class.ensures.0
