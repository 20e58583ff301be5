use Rattle.net.specs.NetLaws.{improved-queued, improved-joins}
use Rattle.net.specs.Net.{state_of, joined}
use Prim.Native.Nat.{ℕ}
use mathlib.Core.Path.{ap, sym, ◌∙◌}
use mathlib.Core.List.{List}
use Rattle.labels.proofs.improve.Goals as goal

pub returns-then-net-v-eq2 : goal.returns-then-net-v-eq2
returns-then-net-v-eq2 c = let a = c.args in
    c.put_label.ensures ∙ improved-queued a.net.now a.u a.v a.d (ap (λ (m : List ℕ). state_of m a.v) (sym c.put_label.ensures) ∙ c.if-net-v-eq2.true)

pub returns : goal.returns
returns c = let a = c.args in
    c.join.ensures ∙ ap (λ (m : List ℕ). joined m a.v) c.put_label.ensures
    ∙ improved-joins a.net.now a.u a.v a.d (λ e. c.if-net-v-eq2.false (ap (λ (m : List ℕ). state_of m a.v) c.put_label.ensures ∙ e))
