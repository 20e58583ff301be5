use Rattle.cost_matrix.specs.Matrix.{celled}
use mathlib.Core.Path.{◌∙◌}
use Rattle.cost_matrix.proofs.lay_cell.Goals as goal

pub returns : goal.returns
returns c = let a = c.args in c.put_cell.ensures ∙ (λ i. celled a.costs.now a.k (c.cell_cost-d.ensures i) (c.capacity-cap.ensures i))
