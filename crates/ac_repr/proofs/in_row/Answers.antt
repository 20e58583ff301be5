use Rattle.ac_repr.proofs.Steps.{row_ends, row_goes}
use Rattle.ac_ops.specs.AcOps.{span-members, span-end}
use Rattle.spec.specs.Image.{tables_of}
use Rattle.ac_repr.proofs.in_row.Goals as goal

pub members_of-right-requires : goal.members_of-right-requires
members_of-right-requires c = (c.requires.0, c.requires.2)

pub next_place-y-requires : goal.next_place-y-requires
next_place-y-requires c =
    (c.requires.0, span-members c.args.s.now c.args.im c.args.r c.members_of-right.result c.requires.0 c.requires.1 c.requires.2 c.members_of-right.ensures.0, c.requires.3, c.members_of-right.ensures.1)

pub returns-then-right-y : goal.returns-then-right-y
returns-then-right-y c =
    row_ends (tables_of c.args.s.now) c.args.r c.args.op c.args.a c.args.b c.members_of-right.result.to c.next_place-y.result (span-end c.args.s.now c.args.im c.args.r c.members_of-right.result c.requires.0 c.requires.1 c.requires.2 c.members_of-right.ensures.0) c.next_place-y.ensures c.if-right-y.true

pub returns : goal.returns
returns c =
    row_goes (tables_of c.args.s.now) c.args.r c.args.op c.args.a c.args.b c.members_of-right.result.to c.next_place-y.result (span-end c.args.s.now c.args.im c.args.r c.members_of-right.result c.requires.0 c.requires.1 c.requires.2 c.members_of-right.ensures.0) c.next_place-y.ensures c.if-right-y.false
