use Rattle.ac_repr.proofs.Steps.{op_row, op-rows, op-none}
use Rattle.ac_ops.specs.AcOps.{span-members, span-end}
use Rattle.spec.specs.Image.{tables_of}
use borrow.Author.Rules.{rules}
use Rattle.ac_repr.proofs.in_op.Goals as goal
use Rattle.ac_repr.proofs.in_op.Goals.{else-has_place-via-else-has_place, else-has_place-via-then-has_place+in-None-1}

pub members_of-left-requires : goal.members_of-left-requires
members_of-left-requires c = (c.requires.0, c.requires.2)

pub has_place-requires : goal.has_place-requires
has_place-requires c =
    (c.requires.0, span-members c.args.s.now c.args.im c.args.l c.members_of-left.result c.requires.0 c.requires.1 c.requires.2 c.members_of-left.ensures.0, c.requires.4)

pub in_row-requires : goal.in_row-requires
in_row-requires c = (c.requires.0, c.requires.1, c.requires.3, c.requires.4)

pub returns : goal.returns
returns c =
    op_row (tables_of c.args.s.now) c.args.l c.args.r c.args.w c.members_of-left.result.to c.has_place.result (span-end c.args.s.now c.args.im c.args.l c.members_of-left.result c.requires.0 c.requires.1 c.requires.2 c.members_of-left.ensures.0) c.has_place.ensures c.in-Some.v c.in_row.result c.if-has_place.true c.in-Some.is c.in_row.ensures

pub in_rows-requires : goal.in_rows-requires
in_rows-requires c = (c.requires.0, c.requires.1, c.requires.2, c.requires.3, c.requires.4)

pub returns-2 : goal.returns-2
returns-2 c =
    elim c.else-has_place.branch [
      | else-has_place-via-else-has_place w ↦ op-none (tables_of c.args.s.now) c.args.l c.args.r c.args.w c.members_of-left.result.to c.has_place.result (span-end c.args.s.now c.args.im c.args.l c.members_of-left.result c.requires.0 c.requires.1 c.requires.2 c.members_of-left.ensures.0) c.has_place.ensures c.in_rows.result w.if-has_place.false c.in_rows.ensures
      | else-has_place-via-then-has_place+in-None-1 w ↦ op-rows (tables_of c.args.s.now) c.args.l c.args.r c.args.w c.members_of-left.result.to c.has_place.result (span-end c.args.s.now c.args.im c.args.l c.members_of-left.result c.requires.0 c.requires.1 c.requires.2 c.members_of-left.ensures.0) c.has_place.ensures w.in_row.result c.in_rows.result w.if-has_place.true (search rules) w.in_row.ensures c.in_rows.ensures
    ]
