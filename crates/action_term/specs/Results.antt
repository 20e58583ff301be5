-- What the steps that make terms leave in the buffers.
use Rattle.std.specs.Prelude.{◌≡◌, Bool, List, [], map, ℕ, length, Option}
use Rattle.spec.specs.Bytes.{Limits, pick}
use Rattle.spec.specs.Pool.{op_node, sort_runs, intern}
use Rattle.terms.specs.Buffers.{part, unpack, pool_of}
use Rattle.terms.specs.Chains.{Holds}
use Rattle.interning.specs.Interning.{entered_of, pool_after, Interning}
use Rattle.interning.specs.Growing.{Grows}
use Rattle.joining.specs.Joining.{over, join_numbers}
use Rattle.action_term.specs.Sorting.{ordered_in}

-- the list that is interned: ordered, then joined, in place
abbrev pub action_list : Bool → List ℕ → List ℕ → List ℕ → ℕ → List ℕ
action_list commutative terms runs list n = over (join_numbers [] (ordered_in commutative (pool_of terms runs) list n)) (over (ordered_in commutative (pool_of terms runs) list n) list)

-- `intern_action_result`: "children of commutative kinds are sorted"
pub record ActionResult (lim : Limits) (terms runs list : List ℕ) (n op : ℕ) (commutative : Bool) (terms' runs' list' : List ℕ) (r : Option ℕ) : Type 0 where
  pub answer : r ≡ entered_of (intern lim (pool_of terms runs) (op_node op (pick commutative (sort_runs (pool_of terms runs) (map unpack (part list 0 n))) (map unpack (part list 0 n)))))
  pub pool : pool_of terms' runs' ≡ pool_after (pool_of terms runs) (intern lim (pool_of terms runs) (op_node op (pick commutative (sort_runs (pool_of terms runs) (map unpack (part list 0 n))) (map unpack (part list 0 n)))))
  pub holds : Holds terms' runs'
  -- where it is refused, the pool's buffers are as they were
  pub grows : Grows terms runs terms' runs' (pool_after (pool_of terms runs) (intern lim (pool_of terms runs) (op_node op (pick commutative (sort_runs (pool_of terms runs) (map unpack (part list 0 n))) (map unpack (part list 0 n))))))
  pub list_is : list' ≡ action_list commutative terms runs list n
  pub buffers : Interning lim terms runs list' (length (join_numbers [] (ordered_in commutative (pool_of terms runs) list n))) op 0 terms' runs' r
