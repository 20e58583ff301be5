use Rattle.spec.specs.Action.{cell_pairs}
use Rattle.arrays.specs.Arrays.{term_in}
use Rattle.cells.specs.Cells.{sides_of, cells-few, cell-count}
use Rattle.plan_offer.specs.Listing.{listed-none, listed_more, listed-many, listed-all}
use Prim.Native.Nat.{◌≤◌}
use native.Mathlib.Omega.{arith}
use mathlib.Core.Path.{refl, sym, ◌∙◌}
use lib.ListN.{length, get_or}
use Rattle.plan_offer.proofs.list_plan.Goals as goal

pub loop-k-init : goal.loop-k-init
loop-k-init c = let a = c.args in listed-none (term_in a.w a.graph.now a.pairs.now) (cell_pairs (sides_of a.left.now a.rows a.right.now a.cols)) a.x.now a.list.now

pub list_cell-m-requires : goal.list_cell-m-requires
list_cell-m-requires c =
    (c.requires.0, c.requires.1, c.requires.2, omega (arith, c.requires.3, c.loop-k-test.true), c.requires.4 c.loop-k.k c.loop-k-test.true, omega (arith, c.loop-k.invariant.few, c.loop-k.invariant.long, c.requires.5, c.requires.3, c.loop-k-test.true))

pub loop-k-smaller : goal.loop-k-smaller
loop-k-smaller c = omega (arith, c.loop-k-test.true)

pub loop-k-preserved : goal.loop-k-preserved
loop-k-preserved c =
    let a = c.args in
    let ps = cell_pairs (sides_of a.left.now a.rows a.right.now a.cols) in
    let of = term_in a.w a.graph.now a.pairs.now in
    rw (c.list_cell-m.ensures.0, c.list_cell-m.ensures.1)
    (listed_more of ps a.x.now a.list.now c.loop-k.k c.loop-k.m c.loop-k.list c.loop-k.invariant (cell-count a.left.now a.rows a.right.now a.cols c.requires.1 ∙ sym c.requires.3) (omega (arith, c.requires.3, c.requires.5)) c.loop-k-test.true (get_or a.x.now c.loop-k.k 0) (of (get_or ps c.loop-k.k (0, 0))) refl refl)

pub shape_of-list : goal.shape_of-list
shape_of-list c = c.loop-k.invariant.long

pub returns : goal.returns
returns c =
    let a = c.args in
    let ps = cell_pairs (sides_of a.left.now a.rows a.right.now a.cols) in
    let of = term_in a.w a.graph.now a.pairs.now in
    let f : length a.x.now ≤ length a.list.now = omega (arith, c.requires.3, c.requires.5) in
    (listed-many of ps a.x.now a.list.now c.loop-k.k c.loop-k.m c.loop-k.list c.loop-k.invariant (omega (arith, c.loop-k-test.false)) f, listed-all of ps a.x.now a.list.now c.loop-k.k c.loop-k.m c.loop-k.list c.loop-k.invariant (omega (arith, c.loop-k-test.false)) f)
