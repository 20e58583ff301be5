use Rattle.wide.specs.Value.{unsigned}
use Rattle.cost_matrix.specs.Cells.{problem_of}
use Rattle.cost_matrix.specs.Laying.{weight-of}
use mathlib.Core.Path.{sym, ◌∙◌}
use Rattle.slice_matrix.proofs.lay.Goals as goal

pub lay_cells-requires : goal.lay_cells-requires
unfolding problem_of
lay_cells-requires c =
    let a = c.args in
    let h = c.requires in
    let v = c.largest_mass.ensures a.supply.now a.demand.now a.sizes.now (h.2 ∙ sym h.3) in
    (h.0, h.1, h.2, h.3, h.4, h.5, c.weight-w.ensures.1, weight-of (problem_of a.supply.now a.demand.now a.sizes.now a.masses.now a.allowed.now) c.total.result c.largest_mass.result (unsigned c.weight-w.result) c.total.ensures.0 v c.weight-w.ensures.0)
