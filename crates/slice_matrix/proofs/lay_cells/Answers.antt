use Prim.Native.Nat.{◌/◌, ◌%◌}
use Rattle.wide.specs.Value.{unsigned}
use Rattle.cost_matrix.specs.Places.{div-in}
use Rattle.cost_matrix.specs.Cells.{cell_of, problem_of, cell-at}
use Rattle.cost_matrix.specs.Laying.{laying-none, laying-more, laying-all}
use borrow.Author.Rules.{rules}
use native.Mathlib.Omega.{arith}
use mathlib.Core.Path.{refl}
use lib.ListN.{length, get_or}
use Rattle.slice_matrix.proofs.lay_cells.Goals as goal

pub loop-k-init : goal.loop-k-init
loop-k-init c = let a = c.args in (omega arith, laying-none (problem_of a.supply.now a.demand.now a.sizes.now a.masses.now a.allowed.now) a.costs.now, refl)

pub nonzero_div-k : goal.nonzero_div-k
nonzero_div-k c = let h = div-in (length c.args.supply.now) (length c.args.demand.now) c.loop-k.k (omega arith) in search rules

pub offset_bounds-supply-k : goal.offset_bounds-supply-k
offset_bounds-supply-k c = let h = div-in (length c.args.supply.now) (length c.args.demand.now) c.loop-k.k (omega arith) in search rules

pub bounds-supply-k : goal.bounds-supply-k
bounds-supply-k c = let h = div-in (length c.args.supply.now) (length c.args.demand.now) c.loop-k.k (omega arith) in h.0

pub nonzero_rem-k : goal.nonzero_rem-k
nonzero_rem-k c = let h = div-in (length c.args.supply.now) (length c.args.demand.now) c.loop-k.k (omega arith) in search rules

pub offset_bounds-demand-k : goal.offset_bounds-demand-k
offset_bounds-demand-k c = let h = div-in (length c.args.supply.now) (length c.args.demand.now) c.loop-k.k (omega arith) in search rules

pub bounds-demand-k : goal.bounds-demand-k
bounds-demand-k c = let h = div-in (length c.args.supply.now) (length c.args.demand.now) c.loop-k.k (omega arith) in h.1

pub loop-k-preserved : goal.loop-k-preserved
unfolding problem_of
loop-k-preserved c =
    let a = c.args in
    let l = c.loop-k in
    let p = problem_of a.supply.now a.demand.now a.sizes.now a.masses.now a.allowed.now in
    let L = laying-more p a.costs.now l.k l.costs l.invariant.1 (omega arith) (cell_of a.sizes.now a.masses.now a.allowed.now l.k) (unsigned a.w) (get_or a.supply.now (l.k / length a.demand.now) 0) (get_or a.demand.now (l.k % length a.demand.now) 0) (cell-at a.supply.now a.demand.now a.sizes.now a.masses.now a.allowed.now l.k (omega arith)) c.requires.7 refl refl c.lay_flagged.new.costs c.lay_flagged.ensures in
    (omega arith, L, L.size)

pub shape_of-costs : goal.shape_of-costs
shape_of-costs c = let h = c.loop-k.invariant.2 in search rules

pub returns : goal.returns
unfolding problem_of
returns c = let a = c.args in let l = c.loop-k in laying-all (problem_of a.supply.now a.demand.now a.sizes.now a.masses.now a.allowed.now) a.costs.now l.k l.costs l.invariant.1 (omega arith)
