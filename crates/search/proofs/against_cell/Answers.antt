use Rattle.search_laws.specs.Laws.{against-yes, against-not}
use Rattle.wide.specs.Wrap.{add_words, neg_words}
use Rattle.wide.specs.declared.Wide.{Wide}
use mathlib.Core.Path.{ap, ◌∙◌}
use Rattle.net.specs.Net.{relaxed}
use Rattle.search.proofs.against_cell.Goals as goal

pub returns-then-flow-k-gt0 : goal.returns-then-flow-k-gt0
returns-then-flow-k-gt0 c = let a = c.args in
    c.relax.ensures
    ∙ ap (λ (w : Wide). relaxed a.net.now a.u a.v w) (c.wrapping_add.ensures ∙ ap (λ (w : Wide). add_words a.d w) (c.wrapping_neg.ensures ∙ ap neg_words c.cost-c.ensures))
    ∙ against-yes a.costs.now a.flow.now a.net.now a.k a.u a.v a.d c.if-flow-k-gt0.true

pub returns : goal.returns
returns c = let a = c.args in against-not a.costs.now a.flow.now a.net.now a.k a.u a.v a.d c.if-flow-k-gt0.false
