use Rattle.ac_repr.proofs.Steps.{rows_end, rows-go}
use Rattle.ac_ops.specs.AcOps.{span-members, span-end}
use Rattle.spec.specs.Image.{tables_of}
use Rattle.ac_repr.proofs.in_rows.Goals as goal

pub members_of-left-requires : goal.members_of-left-requires
members_of-left-requires c = (c.requires.0, c.requires.2)

pub next_place-a-requires : goal.next_place-a-requires
next_place-a-requires c =
    (c.requires.0, span-members c.args.s.now c.args.im c.args.l c.members_of-left.result c.requires.0 c.requires.1 c.requires.2 c.members_of-left.ensures.0, c.requires.4, c.members_of-left.ensures.1)

pub returns-then-left-a : goal.returns-then-left-a
returns-then-left-a c =
    rows_end (tables_of c.args.s.now) c.args.l c.args.r c.args.op c.args.x c.members_of-left.result.to c.next_place-a.result (span-end c.args.s.now c.args.im c.args.l c.members_of-left.result c.requires.0 c.requires.1 c.requires.2 c.members_of-left.ensures.0) c.next_place-a.ensures c.if-left-a.true

pub first_member-b-requires : goal.first_member-b-requires
first_member-b-requires c = (c.requires.0, c.requires.3)

pub in_row-requires : goal.in_row-requires
in_row-requires c = (c.requires.0, c.requires.1, c.requires.3, c.requires.4)

pub returns : goal.returns
returns c =
    rows-go (tables_of c.args.s.now) c.args.l c.args.r c.args.op c.args.x c.members_of-left.result.to c.next_place-a.result (span-end c.args.s.now c.args.im c.args.l c.members_of-left.result c.requires.0 c.requires.1 c.requires.2 c.members_of-left.ensures.0) c.next_place-a.ensures
    c.first_member-b.result c.in_row.result c.if-left-a.false c.first_member-b.ensures.0 c.in_row.ensures
