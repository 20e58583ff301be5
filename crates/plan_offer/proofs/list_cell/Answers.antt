use Rattle.arrays.specs.Arrays.{term_in}
use Rattle.spec.specs.Bytes.{Two}
use Rattle.cells.specs.Cells.{cell-within}
use borrow.Author.Tests.{eq-eqb, ne_eqb}
use Prim.Native.Nat.{ℕ, ◌+◌, ◌*◌}
use mathlib.Core.Path.{refl, ap, ◌∙◌}
use lib.ListN.{set}
use Rattle.plan_offer.proofs.list_cell.Goals as goal

pub returns-then-x-eq0 : goal.returns-then-x-eq0
returns-then-x-eq0 c = rw (eq-eqb c.args.x 0 c.if-x-eq0.true) (refl, refl)

pub term_of-requires : goal.term_of-requires
term_of-requires c =
    let a = c.args in
    let (x, y) = cell-within a.left.now a.rows a.right.now a.cols c.requires.1 a.k c.requires.3 {w = a.w} c.requires.2 c.cell-p.result.left c.cell-p.result.right c.cell-p.ensures in
    (c.requires.0, x, y)

pub returns : goal.returns
returns c =
    let a = c.args in
    rw (ne_eqb a.x 0 c.if-x-eq0.false) (refl, c.put_u64.ensures ∙ ap (λ (v : ℕ). set a.list.now a.m (a.x * 16384 + v)) (c.long_u32.ensures.0 ∙ c.term_of.ensures ∙ ap (λ (p : Two). term_in a.w a.graph.now a.pairs.now p) c.cell-p.ensures))
