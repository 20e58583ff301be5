use Rattle.spec.specs.Bytes.{text}
use Rattle.lines.specs.PieceWriting.{lit-first, lit-second, lit-wrote, variants-room, variants-wrote, op_room, op-wrote}
use Rattle.lines.proofs.write_head.Goals as goal

pub labelled-a-requires : goal.labelled-a-requires
unfolding text
labelled-a-requires c =
    rw c.long_u32.ensures.0 (lit-first c.args.h c.args.v c.args.out.now c.args.at c.requires c.if-h-eq1.true)

pub labelled-requires : goal.labelled-requires
unfolding text
labelled-requires c =
    rw c.long_u32-then-h-eq1.ensures.0 (lit-second c.args.h c.args.v c.args.out.now c.args.at c.requires c.if-h-eq1.true (rw c.long_u32.ensures.0 at c.labelled-a.ensures))

pub returns-then-h-eq1 : goal.returns-then-h-eq1
unfolding text
returns-then-h-eq1 c =
    lit-wrote c.args.h c.args.v c.args.out.now c.args.at c.requires c.if-h-eq1.true (rw c.long_u32.ensures.0 at c.labelled-a.ensures) (rw c.long_u32-then-h-eq1.ensures.0 at c.labelled.ensures)

pub text-requires : goal.text-requires
unfolding text
text-requires c =
    variants-room c.args.h c.args.v c.args.out.now c.args.at c.requires c.if-h-eq2.true

pub returns-then-h-eq2 : goal.returns-then-h-eq2
unfolding text
returns-then-h-eq2 c =
    variants-wrote c.args.h c.args.v c.args.out.now c.args.at c.requires c.if-h-eq2.true c.text.ensures

pub labelled-requires-2 : goal.labelled-requires-2
unfolding text
labelled-requires-2 c =
    rw c.long_u32-2.ensures.0 (op_room c.args.h c.args.v c.args.out.now c.args.at c.requires c.if-h-eq1.false c.if-h-eq2.false)

pub returns : goal.returns
unfolding text
returns c =
    op-wrote c.args.h c.args.v c.args.out.now c.args.at c.requires c.if-h-eq1.false c.if-h-eq2.false (rw c.long_u32-2.ensures.0 at c.labelled-2.ensures)
