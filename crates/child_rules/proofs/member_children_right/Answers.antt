use mathlib.Core.Path.{ap}
use mathlib.Core.Bool.{not}
use Rattle.span_rules.specs.Within.{op_room}
use Rattle.child_rules.proofs.ChildLaws.{arity-wrong, own-left}
use Rattle.laws.specs.AcceptedTurns.{failed, passed}
use Rattle.spec.specs.Image.{tables_of, the_member}
use Rattle.child_rules.proofs.member_children_right.Goals as goal

pub kind-k-requires : goal.kind-k-requires
kind-k-requires c = (c.requires.0, op_room c.args.s.now c.args.im c.requires.0 c.requires.2 c.requires.1 c.member_op.ensures.0)

pub returns-then-not-arity_right : goal.returns-then-not-arity_right
returns-then-not-arity_right c =
    arity-wrong (tables_of c.args.s.now) (the_member (tables_of c.args.s.now) c.args.m) c.member_op.ensures.0 c.kind-k.ensures.0 c.child_count.ensures.0
    (failed c.arity_right.ensures (ap not c.if-not-arity_right.true))

pub returns : goal.returns
returns c =
    own-left (tables_of c.args.s.now) (the_member (tables_of c.args.s.now) c.args.m) c.member_op.ensures.0 c.kind-k.ensures.0 c.child_count.ensures.0
    (passed c.arity_right.ensures (ap not c.if-not-arity_right.false)) c.own_right.ensures
