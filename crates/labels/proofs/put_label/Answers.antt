use Rattle.net.specs.Net.{HIGH, PRED}
use Prim.Native.Nat.{ℕ, ◌+◌}
use mathlib.Core.Path.{ap, ◌∙◌}
use mathlib.Core.List.{List}
use lib.ListN.{set}
use Rattle.labels.proofs.put_label.Goals as goal

pub returns : goal.returns
returns c =
    let a = c.args in
    c.put-3.ensures
    ∙ ap (λ (m : List ℕ). set m (PRED + a.v) a.u) (c.put-2.ensures
    ∙ ap (λ (m : List ℕ). set m (HIGH + a.v) a.d.hi) c.put.ensures)
