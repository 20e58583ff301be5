use Rattle.span_rules.proofs.SpanLaws.{op-wrong, count-wrong, value-zero, value-other}
use Rattle.image.specs.Loaded.{operations-many}
use Rattle.spec.specs.Image.{tables_of, the_member}
use Rattle.span_rules.proofs.member_right.Goals as goal

pub returns-then-o-im : goal.returns-then-o-im
returns-then-o-im c =
    op-wrong (tables_of c.args.s.now) (the_member (tables_of c.args.s.now) c.args.m) (operations-many c.args.s.now c.args.im c.requires.0) c.member_op-o.ensures.0 c.if-o-im.true

pub returns-then-child_count-gt-ARITY : goal.returns-then-child_count-gt-ARITY
returns-then-child_count-gt-ARITY c =
    count-wrong (tables_of c.args.s.now) (the_member (tables_of c.args.s.now) c.args.m) (operations-many c.args.s.now c.args.im c.requires.0) c.member_op-o.ensures.0 c.child_count.ensures.0 c.if-o-im.false c.if-child_count-gt-ARITY.true

pub returns-then-member_value-eq0 : goal.returns-then-member_value-eq0
returns-then-member_value-eq0 c =
    value-zero (tables_of c.args.s.now) (the_member (tables_of c.args.s.now) c.args.m) (operations-many c.args.s.now c.args.im c.requires.0) c.member_op-o.ensures.0 c.child_count.ensures.0 c.if-o-im.false c.member_value.ensures.0 c.if-child_count-gt-ARITY.false c.if-member_value-eq0.true

pub returns : goal.returns
returns c =
    value-other (tables_of c.args.s.now) (the_member (tables_of c.args.s.now) c.args.m) (operations-many c.args.s.now c.args.im c.requires.0) c.member_op-o.ensures.0 c.child_count.ensures.0 c.if-o-im.false c.member_value.ensures.0 c.if-child_count-gt-ARITY.false c.if-member_value-eq0.false
    c.kind.ensures.0
