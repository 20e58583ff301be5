use Rattle.alignment.specs.Members.{first-of-two, second-of-two, twins-are}
use borrow.Author.Rules.{rules}
use Rattle.alignment.proofs.twins.Goals as goal

pub child_class-requires : goal.child_class-requires
child_class-requires c = (c.requires.0, first-of-two c.args.s.now c.args.im c.requires.0 c.requires.1 c.args.m c.requires.2 c.requires.3 c.first_child-i.ensures.0)

pub child_class-requires-2 : goal.child_class-requires-2
child_class-requires-2 c = (c.requires.0, second-of-two c.args.s.now c.args.im c.requires.0 c.requires.1 c.args.m c.requires.2 c.requires.3 c.first_child-i.ensures.0)

pub returns : goal.returns
returns c =
    twins-are c.args.s.now c.args.im c.requires.0 c.requires.1 c.args.m c.requires.2 c.requires.3 c.first_child-i.ensures.0 c.child_class.ensures.0 c.child_class-2.ensures.0
