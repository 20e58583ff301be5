-- Sorted runs: `sort_runs` gives a sorted permutation, and any sorted permutation gives the same runs after joining.
use mathlib.Core.List.{List, [], ◌∷◌}
use Rattle.spec.specs.Bytes.{Two}
use Rattle.spec.specs.Pool.{Pool}
use Rattle.pools.specs.Order.{NotAfter}

-- each run's child at most the next one's
pub data Sorted (p : Pool) : List Two → Type 0 where
  none : Sorted p []
  one : {r : Two} → Sorted p (r ∷ [])
  more : {r s : Two} {l : List Two} → NotAfter p r.0 s.0 → Sorted p (s ∷ l) → Sorted p (r ∷ s ∷ l)
