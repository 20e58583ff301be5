use Rattle.cells.specs.Cells.{with, some-col, row_lt, col-lt, cell-is}
use native.Mathlib.Omega.{arith}
use mathlib.Core.Path.{◌∙◌}
use borrow.Author.Rules.{rules}
use Rattle.cells.proofs.cell.Goals as goal

pub nonzero_div-k : goal.nonzero_div-k
nonzero_div-k c = let a = c.args in omega (arith, some-col a.left.now a.rows a.right.now a.cols c.requires.0 a.k c.requires.1)

pub class_at-requires : goal.class_at-requires
class_at-requires c = let a = c.args in omega (arith, c.requires.0.left_long, row_lt a.left.now a.rows a.right.now a.cols c.requires.0 a.k c.requires.1)

pub nonzero_rem-k : goal.nonzero_rem-k
nonzero_rem-k c = let a = c.args in omega (arith, some-col a.left.now a.rows a.right.now a.cols c.requires.0 a.k c.requires.1)

pub class_at-requires-2 : goal.class_at-requires-2
class_at-requires-2 c = let a = c.args in omega (arith, c.requires.0.right_long, col-lt a.left.now a.rows a.right.now a.cols c.requires.0 a.k c.requires.1)

pub returns : goal.returns
returns c =
    let a = c.args in
    (λ i. with ((c.size_u64-a.ensures ∙ c.class_at.ensures) i) ((c.size_u64-b.ensures ∙ c.class_at-2.ensures) i))
    ∙ cell-is a.left.now a.rows a.right.now a.cols c.requires.0 a.k c.requires.1
