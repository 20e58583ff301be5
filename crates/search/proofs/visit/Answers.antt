use Rattle.search_laws.specs.Laws.{visited-source, visited-row, visited-column, visited-sink}
use Rattle.wide.specs.declared.Wide.{Wide}
use Prim.Native.Nat.{ℕ, ◌-◌, ◌+◌}
use native.Mathlib.Omega.{arith}
use mathlib.Core.Path.{◌≡◌, ap, ◌∙◌}
use mathlib.Core.List.{List}
use lib.ListN.{get_or}
use borrow.Author.Rules.{rules}
use Rattle.cost_matrix.specs.Places.{row_fits}
use Rattle.net.specs.Net.{label_of}
use Rattle.search_laws.specs.Edges.{along_margin, against_column}
use Rattle.spec.specs.Transport.{WIDEST}
use Rattle.search.proofs.visit.Goals as goal

pub returns-then-u-eq0 : goal.returns-then-u-eq0
returns-then-u-eq0 c = let a = c.args in c.spread.ensures ∙ visited-source a.costs.now a.flow.now a.left.now a.r a.c a.u a.net.now c.if-u-eq0.true

pub overflow_mul-u : goal.overflow_mul-u
overflow_mul-u c = let a = c.args in let h = row_fits (a.u - 1) a.r a.c (omega arith) in search rules

pub along_row-requires : goal.along_row-requires
along_row-requires c = let a = c.args in let h = row_fits (a.u - 1) a.r a.c (omega arith) in (omega arith, omega arith, omega arith, omega arith)

pub returns-then-u-r : goal.returns-then-u-r
returns-then-u-r c = let a = c.args in c.along_row.ensures ∙ visited-row a.costs.now a.flow.now a.left.now a.r a.c a.u a.net.now c.if-u-eq0.false c.if-u-r.true

pub returns-then-u-r-2 : goal.returns-then-u-r-2
returns-then-u-r-2 c = let a = c.args in
    let t = along_margin (get_or a.left.now (WIDEST + (a.u - 1 - a.r)) 0) a.net.now a.u (1 + a.r + a.c) (label_of a.net.now a.u) in
    let e : c.along_margin.new.net ≡ t = c.along_margin.ensures ∙ ap (λ (w : Wide). along_margin (get_or a.left.now (WIDEST + (a.u - 1 - a.r)) 0) a.net.now a.u (1 + a.r + a.c) w) c.label-d.ensures in
    c.against_column.ensures
    ∙ ap (λ (m : List ℕ). against_column a.costs.now a.flow.now a.c a.u (label_of m a.u) a.r (a.u - 1 - a.r) 1 m) e
    ∙ visited-column a.costs.now a.flow.now a.left.now a.r a.c a.u a.net.now c.if-u-eq0.false (omega arith) (omega arith)

pub returns : goal.returns
returns c = let a = c.args in c.spread-2.ensures ∙ visited-sink a.costs.now a.flow.now a.left.now a.r a.c a.u a.net.now c.if-u-eq0.false (omega arith) (omega arith)
