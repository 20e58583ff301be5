use Rattle.child_rules.proofs.ChildLaws.{class-wrong, none-wrong, one_right, more-right}
use Rattle.image.specs.Loaded.{the_child, classes-many}
use Rattle.spec.specs.Image.{tables_of}
use Rattle.child_rules.proofs.child_right.Goals as goal

pub returns-then-child_class-im : goal.returns-then-child_class-im
returns-then-child_class-im c =
    class-wrong (tables_of c.args.s.now) c.args.k (the_child (tables_of c.args.s.now) c.args.i) (classes-many c.args.s.now c.args.im c.requires.0) c.child_class.ensures.0 c.if-child_class-im.true

pub returns-then-n-lt1 : goal.returns-then-n-lt1
returns-then-n-lt1 c =
    none-wrong (tables_of c.args.s.now) c.args.k (the_child (tables_of c.args.s.now) c.args.i) (classes-many c.args.s.now c.args.im c.requires.0) c.child_class.ensures.0 c.if-child_class-im.false c.child_times-n.ensures.0 c.if-n-lt1.true

pub returns-then-n-eq1 : goal.returns-then-n-eq1
returns-then-n-eq1 c =
    one_right (tables_of c.args.s.now) c.args.k (the_child (tables_of c.args.s.now) c.args.i) (classes-many c.args.s.now c.args.im c.requires.0) c.child_class.ensures.0 c.if-child_class-im.false c.child_times-n.ensures.0 c.if-n-lt1.false c.if-n-eq1.true

pub returns : goal.returns
returns c =
    more-right (tables_of c.args.s.now) c.args.k (the_child (tables_of c.args.s.now) c.args.i) (classes-many c.args.s.now c.args.im c.requires.0) c.child_class.ensures.0 c.if-child_class-im.false c.child_times-n.ensures.0 c.if-n-lt1.false c.if-n-eq1.false
