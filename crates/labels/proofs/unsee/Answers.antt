use Rattle.net.specs.NetLaws.{unsee-start, unsee-turn, unsee-end}
use Rattle.net.specs.Net.{unseen_to}
use Prim.Native.Nat.{ℕ, ◌-◌, ◌+◌}
use native.Mathlib.Omega.{arith}
use mathlib.Core.Path.{ap, sym, ◌∙◌}
use mathlib.Core.List.{List}
use Rattle.labels.proofs.unsee.Goals as goal

pub loop-i-init : goal.loop-i-init
loop-i-init c = (omega arith, unsee-start c.args.n 0 c.args.net.now)

pub loop-i-preserved : goal.loop-i-preserved
loop-i-preserved c = let a = c.args in let l = c.loop-i in
    (omega arith, ap (λ (m : List ℕ). unseen_to (a.n - (l.i + 1)) (l.i + 1) m) c.put.ensures ∙ sym (unsee-turn a.n l.i l.net (omega arith)) ∙ l.invariant.1)

pub returns : goal.returns
returns c = let a = c.args in let l = c.loop-i in sym (unsee-end a.n l.i l.net (omega arith)) ∙ l.invariant.1
