-- At most 65 rows and 65 columns: 132 nodes.
use Rattle.std.specs.Prelude.{ℕ, ◌≤◌, ◌<◌, List}
use Rattle.std.proofs.Common.{arith}
use Rattle.spec.specs.Transport.{Problem, weight, node_count}
use Rattle.flow.specs.Augmentation.{Partial}
use Rattle.flow.specs.Magnitude.{Small}
use Rattle.net.specs.Net.{NODES}

module _ (p : Problem) (S : Small p) (x : List ℕ) (I : Partial p (weight p) x) where
  pub few : node_count p ≤ NODES
  few = omega (arith, S.few_rows, S.few_columns)

pub none_left : {n : ℕ} → n ≤ 0 → 0 < n → ⊥
none_left a b = omega arith
