use Rattle.search_laws.specs.Laws.{spread-start, spread-turn, spread_end}
use Rattle.wide.specs.declared.Wide.{Wide}
use Prim.Native.Nat.{ℕ, ◌-◌, ◌+◌}
use native.Mathlib.Omega.{arith}
use mathlib.Core.Path.{ap, sym, ◌∙◌}
use mathlib.Core.List.{List}
use Rattle.search_laws.specs.Edges.{spread_to}
use Rattle.search.proofs.spread.Goals as goal

pub loop-i-init : goal.loop-i-init
loop-i-init c = let a = c.args in (omega arith, spread-start a.left.now a.u c.label-d.result a.n a.k a.v 0 a.net.now)

pub loop-i-preserved : goal.loop-i-preserved
loop-i-preserved c = let a = c.args in let l = c.loop-i in (
  omega arith,
  ap (λ (m : List ℕ). spread_to a.left.now a.u c.label-d.result (a.n - (l.i + 1)) (a.k + (l.i + 1)) (a.v + (l.i + 1)) m) c.along_margin.ensures
      ∙ sym (spread-turn a.left.now a.u c.label-d.result a.n a.k a.v l.i l.net (omega arith)) ∙ l.invariant.1,
)

pub returns : goal.returns
returns c = let a = c.args in let l = c.loop-i in
    sym (spread_end a.left.now a.u c.label-d.result a.n a.k a.v l.i l.net (omega arith)) ∙ l.invariant.1
    ∙ ap (λ (w : Wide). spread_to a.left.now a.u w a.n a.k a.v a.net.now) c.label-d.ensures
