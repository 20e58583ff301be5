use Rattle.net.specs.Net.{labelled, joined, begun}
use Prim.Native.Nat.{ℕ}
use mathlib.Core.Path.{ap, ◌∙◌}
use mathlib.Core.List.{List}
use lib.ListN.{set}
use Rattle.labels.proofs.begin.Goals as goal

pub returns : goal.returns
unfolding begun
returns c = c.join.ensures
    ∙ ap (λ (m : List ℕ). joined m 0) (c.put_label.ensures
    ∙ ap (λ (m : List ℕ). labelled m 0 0 (record { lo = 0; hi = 0 })) (c.put-2.ensures ∙ ap (λ (m : List ℕ). set m 661 0) (c.put.ensures ∙ ap (λ (m : List ℕ). set m 660 0) c.unsee.ensures)))
