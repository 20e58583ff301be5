use Rattle.widths.specs.WidthLaws.{line-few, line-term, line-rises, line-ends, line-within, line-named, line-length}
use native.Mathlib.Omega.{arith}
use Rattle.widths.proofs.line_width.Goals as goal

pub first-from-requires : goal.first-from-requires
first-from-requires c =
    omega (arith, c.requires.0.long, line-term c.args.terms.now c.args.runs.now c.args.marks.now c.args.n c.args.k c.requires.0 c.requires.1 c.requires.2 c.term_at-t.ensures)

pub overflow_add-t : goal.overflow_add-t
overflow_add-t c =
    omega (arith, line-few c.args.terms.now c.args.runs.now c.args.marks.now c.args.n c.args.k c.requires.0 c.requires.1 c.requires.2 c.term_at-t.ensures)

pub first-to-requires : goal.first-to-requires
first-to-requires c =
    omega (arith, c.requires.0.long, line-term c.args.terms.now c.args.runs.now c.args.marks.now c.args.n c.args.k c.requires.0 c.requires.1 c.requires.2 c.term_at-t.ensures)

pub head-requires : goal.head-requires
head-requires c =
    omega (arith, c.requires.0.long, line-term c.args.terms.now c.args.runs.now c.args.marks.now c.args.n c.args.k c.requires.0 c.requires.1 c.requires.2 c.term_at-t.ensures)

pub value-requires : goal.value-requires
value-requires c =
    omega (arith, c.requires.0.long, line-term c.args.terms.now c.args.runs.now c.args.marks.now c.args.n c.args.k c.requires.0 c.requires.1 c.requires.2 c.term_at-t.ensures)

pub runs_width-requires : goal.runs_width-requires
runs_width-requires c =
    (line-rises c.args.terms.now c.args.runs.now c.args.marks.now c.args.n c.args.k c.requires.0 c.requires.1 c.requires.2 c.term_at-t.ensures c.first-from.ensures.0 c.first-to.ensures.0, line-ends c.args.terms.now c.args.runs.now c.args.marks.now c.args.n c.args.k c.requires.0 c.requires.1 c.requires.2 c.term_at-t.ensures c.first-from.ensures.0 c.first-to.ensures.0, line-within c.args.terms.now c.args.runs.now c.args.marks.now c.args.n c.args.k c.requires.0 c.requires.1 c.requires.2 c.term_at-t.ensures c.first-from.ensures.0 c.first-to.ensures.0, line-named c.args.terms.now c.args.runs.now c.args.marks.now c.args.n c.args.k c.requires.0 c.requires.1 c.requires.2 c.term_at-t.ensures c.first-from.ensures.0 c.first-to.ensures.0)

pub returns : goal.returns
returns c =
    omega (arith, line-length c.args.terms.now c.args.runs.now c.args.marks.now c.args.n c.args.k c.requires.0 c.requires.1 c.requires.2 c.term_at-t.ensures c.first-from.ensures.0 c.first-to.ensures.0 c.head.ensures c.value.ensures, rw c.long_size.ensures at c.digits-a.ensures, c.head_width-b.ensures, c.runs_width.ensures)
