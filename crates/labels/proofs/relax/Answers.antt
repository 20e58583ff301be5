use Rattle.net.specs.NetLaws.{relaxed-yes, relaxed-not}
use mathlib.Core.Path.{sym, ◌∙◌}
use Rattle.labels.proofs.relax.Goals as goal

pub returns-then-improves : goal.returns-then-improves
returns-then-improves c = let a = c.args in c.improve.ensures ∙ relaxed-yes a.net.now a.u a.v a.d (sym c.if-improves.true ∙ c.improves.ensures)

pub returns : goal.returns
returns c = let a = c.args in relaxed-not a.net.now a.u a.v a.d (sym c.if-improves.false ∙ c.improves.ensures)
