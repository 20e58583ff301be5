use Rattle.search_laws.specs.Laws.{column-start, column-first, column-next, column-cell, column-turn, column-end}
use Rattle.wide.specs.declared.Wide.{Wide}
use borrow.Author.Rules.{rules}
use Prim.Native.Nat.{ℕ, ◌-◌, ◌+◌}
use native.Mathlib.Omega.{arith}
use mathlib.Core.Path.{ap, sym, ◌∙◌}
use mathlib.Core.List.{List}
use Rattle.search_laws.specs.Edges.{against_column}
use Rattle.search.proofs.against_column.Goals as goal

pub loop-i-init : goal.loop-i-init
loop-i-init c = let a = c.args in (omega arith, column-first a.k a.c, column-start a.costs.now a.flow.now a.c a.u c.label-d.result a.n a.k a.v 0 a.net.now)

pub against_cell-requires : goal.against_cell-requires
against_cell-requires c = let h = column-cell c.loop-i.at c.args.c c.loop-i.i c.args.k c.args.n c.loop-i.invariant.1 (omega arith) (omega arith) in (omega arith, omega arith, omega arith)

pub overflow_add-at : goal.overflow_add-at
overflow_add-at c = let h = column-cell c.loop-i.at c.args.c c.loop-i.i c.args.k c.args.n c.loop-i.invariant.1 (omega arith) (omega arith) in search rules

pub loop-i-preserved : goal.loop-i-preserved
loop-i-preserved c = let a = c.args in let l = c.loop-i in (
  omega arith,
  column-next l.at a.c l.i a.k l.invariant.1,
  ap (λ (m : List ℕ). against_column a.costs.now a.flow.now a.c a.u c.label-d.result (a.n - (l.i + 1)) (l.at + a.c) (a.v + (l.i + 1)) m) c.against_cell.ensures
      ∙ sym (column-turn a.costs.now a.flow.now a.c a.u c.label-d.result a.n l.at a.v l.i l.net (omega arith)) ∙ l.invariant.2,
)

pub returns : goal.returns
returns c = let a = c.args in let l = c.loop-i in
    sym (column-end a.costs.now a.flow.now a.c a.u c.label-d.result a.n l.at a.v l.i l.net (omega arith)) ∙ l.invariant.2
    ∙ ap (λ (w : Wide). against_column a.costs.now a.flow.now a.c a.u w a.n a.k a.v a.net.now) c.label-d.ensures
