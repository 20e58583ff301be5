use Prim.Native.Nat.{min, ℕ, ◌+◌}
use Rattle.search_laws.specs.PathLaws.{step-here, steps_next, least-turn, least-end}
use Rattle.search_laws.specs.Walk.{here}
use Rattle.search_laws.specs.Path.{least_on}
use native.Mathlib.Omega.{arith}
use mathlib.Core.Path.{refl, ap, sym, ◌∙◌}
use Rattle.augmenting_path.proofs.bottleneck.Goals as goal

pub loop-a-init : goal.loop-a-init
loop-a-init c = (c.requires.4, c.requires.5, refl)

pub left_on-x-requires : goal.left_on-x-requires
left_on-x-requires c = let a = c.args in (c.requires.0, c.requires.1, c.requires.2, c.requires.3, step-here a.path.now a.r a.c c.loop-a.a (omega arith) c.loop-a.invariant.1)

pub loop-a-preserved : goal.loop-a-preserved
loop-a-preserved c = let a = c.args in let l = c.loop-a in (
  omega arith,
  steps_next a.path.now a.r a.c l.a (omega arith) l.invariant.1,
  ap (λ (x : ℕ). least_on a.costs.now a.flow.now a.left.now a.r a.c x (here a.path.now (l.a + 1))) (c.min-b.ensures ∙ ap (λ (x : ℕ). min l.b x) c.left_on-x.ensures)
      ∙ sym (least-turn a.costs.now a.flow.now a.left.now a.path.now a.r a.c l.a l.b (omega arith)) ∙ l.invariant.2,
)

pub returns : goal.returns
returns c = let a = c.args in let l = c.loop-a in sym (least-end a.costs.now a.flow.now a.left.now a.path.now a.r a.c l.a l.b (omega arith)) ∙ l.invariant.2
