-- `structural_cmp` on the entries of a valid pool: it orders as on the expanded lists, its fuel suffices, and it is a total order.
use Rattle.std.specs.Prelude.{◌≡◌, false}
use mathlib.Core.List.{map}
use Prim.Native.Nat.{ℕ}
use Rattle.std.proofs.Math.ListN.{length}
use Rattle.spec.specs.Pool.{Node, Pool, structural_cmp, is_greater}
use Rattle.spec.specs.Meaning.{Term, tree_at}
use Rattle.laws.specs.BagCount.{written}
use Rattle.pools.specs.OrderTerms.{head_of, op_of, value_of, expanded_children}

-- ---- the parts of a number's tree are those of its node
pub record Parts (p : Pool) (n : Node) (s : Term) : Type 0 where
  pub head : head_of s ≡ n.head
  pub op : op_of s ≡ n.op
  pub value : value_of s ≡ n.value
  pub children : expanded_children s ≡ map (tree_at p) (written n.runs)

-- ---- the theorems
-- a does not stand after b: the test of `sort_runs`
abbrev pub NotAfter : Pool → ℕ → ℕ → Type 0
NotAfter p a b = is_greater (structural_cmp (length p) p a b) ≡ false
