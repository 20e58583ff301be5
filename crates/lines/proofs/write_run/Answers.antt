use Rattle.spec.specs.Bytes.{text}
use Rattle.lines.specs.PieceWriting.{run-first, run-second, run-wrote}
use Rattle.lines.proofs.write_run.Goals as goal

pub number_of-requires : goal.number_of-requires
number_of-requires c =
    rw c.child.ensures.0 c.requires.0

pub labelled-a-requires : goal.labelled-a-requires
unfolding text
labelled-a-requires c =
    run-first c.args.marks.now c.args.r c.child.ensures.0 c.number_of.ensures c.args.out.now c.args.at c.requires.1

pub labelled-requires : goal.labelled-requires
unfolding text
labelled-requires c =
    rw c.times.ensures (run-second c.args.marks.now c.args.r c.child.ensures.0 c.number_of.ensures c.args.out.now c.args.at c.requires.1 c.labelled-a.ensures)

pub returns : goal.returns
unfolding text
returns c =
    run-wrote c.args.marks.now c.args.r c.child.ensures.0 c.number_of.ensures c.args.out.now c.args.at c.requires.1 c.labelled-a.ensures (rw c.times.ensures at c.labelled.ensures)
