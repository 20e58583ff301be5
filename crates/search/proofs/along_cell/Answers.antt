use Rattle.search_laws.specs.Laws.{cell-yes, cell-not}
use Rattle.wide.specs.Wrap.{add_words}
use Rattle.wide.specs.declared.Wide.{Wide}
use mathlib.Core.Path.{ap, ◌∙◌}
use Rattle.net.specs.Net.{relaxed}
use Rattle.search.proofs.along_cell.Goals as goal

pub returns-then-flow-k : goal.returns-then-flow-k
returns-then-flow-k c = let a = c.args in
    c.relax.ensures ∙ ap (λ (w : Wide). relaxed a.net.now a.u a.v w) (c.wrapping_add.ensures ∙ ap (λ (w : Wide). add_words a.d w) c.cost.ensures)
    ∙ cell-yes a.costs.now a.flow.now a.net.now a.k a.u a.v a.d c.if-flow-k.true

pub returns : goal.returns
returns c = let a = c.args in cell-not a.costs.now a.flow.now a.net.now a.k a.u a.v a.d c.if-flow-k.false
