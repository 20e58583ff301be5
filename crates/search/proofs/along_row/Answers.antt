use Rattle.search_laws.specs.Laws.{row-start, row-turn, row-end}
use Rattle.wide.specs.declared.Wide.{Wide}
use Prim.Native.Nat.{ℕ, ◌-◌, ◌+◌}
use native.Mathlib.Omega.{arith}
use mathlib.Core.Path.{ap, sym, ◌∙◌}
use mathlib.Core.List.{List}
use Rattle.search_laws.specs.Edges.{along_row}
use Rattle.search.proofs.along_row.Goals as goal

pub loop-i-init : goal.loop-i-init
loop-i-init c = let a = c.args in (omega arith, row-start a.costs.now a.flow.now a.u c.label-d.result a.n a.k a.v 0 a.net.now)

pub loop-i-preserved : goal.loop-i-preserved
loop-i-preserved c = let a = c.args in let l = c.loop-i in (
  omega arith,
  ap (λ (m : List ℕ). along_row a.costs.now a.flow.now a.u c.label-d.result (a.n - (l.i + 1)) (a.k + (l.i + 1)) (a.v + (l.i + 1)) m) c.along_cell.ensures
      ∙ sym (row-turn a.costs.now a.flow.now a.u c.label-d.result a.n a.k a.v l.i l.net (omega arith)) ∙ l.invariant.1,
)

pub returns : goal.returns
returns c = let a = c.args in let l = c.loop-i in
    sym (row-end a.costs.now a.flow.now a.u c.label-d.result a.n a.k a.v l.i l.net (omega arith)) ∙ l.invariant.1
    ∙ ap (λ (w : Wide). along_row a.costs.now a.flow.now a.u w a.n a.k a.v a.net.now) c.label-d.ensures
