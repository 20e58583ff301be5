use Rattle.monomial.proofs.Children.{place-member, place-itself, member-number}
use Rattle.spec.specs.Image.{tables_of}
use Rattle.monomial.proofs.of_place.Goals as goal

pub of_member-requires : goal.of_member-requires
of_member-requires c = (
  c.requires.0,
  c.requires.1,
  member-number c.args.s.now c.args.im c.args.c c.args.x c.members_of-span.result c.requires.0 c.requires.1 c.requires.2 c.members_of-span.ensures.0 c.if-x-span.true,
  c.requires.3,
)

pub returns-then-x-span : goal.returns-then-x-span
returns-then-x-span c =
    place-member (tables_of c.args.s.now) c.args.c c.args.x c.args.mono.now c.of_member.new.mono c.of_member.result c.members_of-span.result c.members_of-span.ensures.0
    c.if-x-span.true c.of_member.ensures

pub returns : goal.returns
returns c =
    place-itself (tables_of c.args.s.now) c.args.c c.args.x c.args.mono.now c.itself.new.mono c.itself.result c.members_of-span.result c.members_of-span.ensures.0
    c.if-x-span.false c.itself.ensures
