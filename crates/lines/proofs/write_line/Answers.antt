use Rattle.widths.specs.WidthLaws.{line-few, line-term, line-rises, line-within, line-named}
use Rattle.lines.specs.LineWriting.{number-room, head-room, runs-room, feed-room, line_wrote}
use native.Mathlib.Omega.{arith}
use Rattle.lines.proofs.write_line.Goals as goal

pub first-from-requires : goal.first-from-requires
first-from-requires c =
    omega (arith, c.requires.0.long, line-term c.args.terms.now c.args.runs.now c.args.marks.now c.args.n c.args.k c.requires.0 c.requires.1 c.requires.2 c.term_at-t.ensures)

pub overflow_add-t : goal.overflow_add-t
overflow_add-t c =
    omega (arith, line-few c.args.terms.now c.args.runs.now c.args.marks.now c.args.n c.args.k c.requires.0 c.requires.1 c.requires.2 c.term_at-t.ensures)

pub first-to-requires : goal.first-to-requires
first-to-requires c =
    omega (arith, c.requires.0.long, line-term c.args.terms.now c.args.runs.now c.args.marks.now c.args.n c.args.k c.requires.0 c.requires.1 c.requires.2 c.term_at-t.ensures)

pub decimal-a-requires : goal.decimal-a-requires
decimal-a-requires c =
    rw c.long_size.ensures (number-room c.args.terms.now c.args.runs.now c.args.marks.now c.args.out.now c.args.at c.args.k c.requires.3)

pub head-requires : goal.head-requires
head-requires c =
    omega (arith, c.requires.0.long, line-term c.args.terms.now c.args.runs.now c.args.marks.now c.args.n c.args.k c.requires.0 c.requires.1 c.requires.2 c.term_at-t.ensures)

pub value-requires : goal.value-requires
value-requires c =
    omega (arith, c.requires.0.long, line-term c.args.terms.now c.args.runs.now c.args.marks.now c.args.n c.args.k c.requires.0 c.requires.1 c.requires.2 c.term_at-t.ensures)

pub write_head-b-requires : goal.write_head-b-requires
write_head-b-requires c =
    head-room c.args.terms.now c.args.runs.now c.args.marks.now c.args.n c.args.k c.requires.0 c.requires.1 c.requires.2 c.term_at-t.ensures c.first-from.ensures.0 c.first-to.ensures.0 c.head.ensures c.value.ensures c.args.out.now c.args.at c.requires.3 (rw c.long_size.ensures at c.decimal-a.ensures)

pub write_runs-c-requires : goal.write_runs-c-requires
write_runs-c-requires c =
    (line-rises c.args.terms.now c.args.runs.now c.args.marks.now c.args.n c.args.k c.requires.0 c.requires.1 c.requires.2 c.term_at-t.ensures c.first-from.ensures.0 c.first-to.ensures.0, line-within c.args.terms.now c.args.runs.now c.args.marks.now c.args.n c.args.k c.requires.0 c.requires.1 c.requires.2 c.term_at-t.ensures c.first-from.ensures.0 c.first-to.ensures.0, line-named c.args.terms.now c.args.runs.now c.args.marks.now c.args.n c.args.k c.requires.0 c.requires.1 c.requires.2 c.term_at-t.ensures c.first-from.ensures.0 c.first-to.ensures.0, runs-room c.args.terms.now c.args.runs.now c.args.marks.now c.args.n c.args.k c.requires.0 c.requires.1 c.requires.2 c.term_at-t.ensures c.first-from.ensures.0 c.first-to.ensures.0 c.head.ensures c.value.ensures c.args.out.now c.args.at c.requires.3 (rw c.long_size.ensures at c.decimal-a.ensures) c.write_head-b.ensures)

pub text-requires : goal.text-requires
text-requires c =
    feed-room c.args.terms.now c.args.runs.now c.args.marks.now c.args.n c.args.k c.requires.0 c.requires.1 c.requires.2 c.term_at-t.ensures c.first-from.ensures.0 c.first-to.ensures.0 c.head.ensures c.value.ensures c.args.out.now c.args.at c.requires.3 (rw c.long_size.ensures at c.decimal-a.ensures) c.write_head-b.ensures c.write_runs-c.ensures

pub returns : goal.returns
returns c =
    line_wrote c.args.terms.now c.args.runs.now c.args.marks.now c.args.n c.args.k c.requires.0 c.requires.1 c.requires.2 c.term_at-t.ensures c.first-from.ensures.0 c.first-to.ensures.0 c.head.ensures c.value.ensures c.args.out.now c.args.at c.requires.3 (rw c.long_size.ensures at c.decimal-a.ensures) c.write_head-b.ensures c.write_runs-c.ensures c.text.ensures
