use Rattle.search_laws.specs.Laws.{margin-yes, margin-not}
use native.Mathlib.Omega.{arith}
use mathlib.Core.Path.{◌∙◌}
use Rattle.search.proofs.along_margin.Goals as goal

pub returns-then-r-gt0 : goal.returns-then-r-gt0
returns-then-r-gt0 c = let a = c.args in c.relax.ensures ∙ margin-yes a.net.now a.u a.v a.d a.r c.if-r-gt0.true

pub returns : goal.returns
returns c = let a = c.args in margin-not a.net.now a.u a.v a.d a.r (omega arith)
