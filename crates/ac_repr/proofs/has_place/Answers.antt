use Rattle.ac_repr.proofs.Places.{place-op, place-past, place_end}
use Rattle.spec.specs.Image.{tables_of}
use Rattle.ac_repr.proofs.has_place.Goals as goal

pub returns-then-x-end : goal.returns-then-x-end
returns-then-x-end c =
    place-op (tables_of c.args.s.now) c.args.end c.args.op c.args.x c.member_op.result c.if-x-end.true c.member_op.ensures.0

pub returns-then-end-x : goal.returns-then-end-x
returns-then-end-x c =
    place-past (tables_of c.args.s.now) c.args.end c.args.op c.args.x c.if-end-x.true

pub returns : goal.returns
returns c =
    place_end (tables_of c.args.s.now) c.args.end c.args.op c.args.x c.identity.result c.if-x-end.false c.if-end-x.false c.identity.ensures.0
