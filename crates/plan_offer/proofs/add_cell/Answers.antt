use Rattle.arrays.specs.Arrays.{quality_in}
use Rattle.spec.specs.Bytes.{Two}
use Rattle.cells.specs.Cells.{cell-within}
use Rattle.plan_offer.specs.Sums.{add_units}
use borrow.Author.Tests.{eq-eqb, ne_eqb}
use Prim.Native.Nat.{ℕ}
use mathlib.Core.Path.{refl, ap, ◌∙◌}
use Rattle.plan_offer.proofs.add_cell.Goals as goal

pub returns-then-x-eq0 : goal.returns-then-x-eq0
returns-then-x-eq0 c = rw (eq-eqb c.args.x 0 c.if-x-eq0.true) refl

pub size_of-requires : goal.size_of-requires
size_of-requires c =
    let a = c.args in
    let (x, y) = cell-within a.left.now a.rows a.right.now a.cols c.requires.1 a.k c.requires.3 {w = a.w} c.requires.2 c.cell-p.result.left c.cell-p.result.right c.cell-p.ensures in
    (c.requires.0, x, y)

pub mass_of-requires : goal.mass_of-requires
mass_of-requires c =
    let a = c.args in
    let (x, y) = cell-within a.left.now a.rows a.right.now a.cols c.requires.1 a.k c.requires.3 {w = a.w} c.requires.2 c.cell-p.result.left c.cell-p.result.right c.cell-p.ensures in
    (c.requires.0, x, y)

pub returns : goal.returns
returns c =
    let a = c.args in
    let q = quality_in a.w a.graph.now a.pairs.now in
    let s = c.add_units-size.ensures ∙ ap (λ (y : ℕ). add_units a.t.size a.x y) (c.size_of.ensures ∙ ap (λ (p : Two). (q p).0) c.cell-p.ensures) in
    let m = c.add_units-mass.ensures ∙ ap (λ (y : ℕ). add_units a.t.mass a.x y) (c.mass_of.ensures ∙ ap (λ (p : Two). (q p).1) c.cell-p.ensures) in
    rw (ne_eqb a.x 0 c.if-x-eq0.false) (λ i. record { size = s i; mass = m i })
