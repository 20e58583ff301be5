use Rattle.class_literals.proofs.LiteralLaws.{other-value, other-op, same-literal}
use Rattle.spec.specs.Image.{tables_of, the_member}
use Rattle.class_literals.proofs.is_literal.Goals as goal

pub returns-then-member_value-v : goal.returns-then-member_value-v
returns-then-member_value-v c =
    other-value (tables_of c.args.s.now) (the_member (tables_of c.args.s.now) c.args.m) c.args.o c.args.v c.requires.2 c.member_value.ensures.0 c.if-member_value-v.true

pub returns-then-member_op-o : goal.returns-then-member_op-o
returns-then-member_op-o c =
    other-op (tables_of c.args.s.now) (the_member (tables_of c.args.s.now) c.args.m) c.args.o c.args.v c.requires.2 c.member_value.ensures.0 c.if-member_value-v.false c.member_op.ensures.0 c.if-member_op-o.true

pub returns : goal.returns
returns c =
    same-literal (tables_of c.args.s.now) (the_member (tables_of c.args.s.now) c.args.m) c.args.o c.args.v c.requires.2 c.member_value.ensures.0 c.if-member_value-v.false c.member_op.ensures.0 c.if-member_op-o.false
