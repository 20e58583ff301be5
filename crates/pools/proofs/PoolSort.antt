-- The runs of an action's term: sorting is a permutation; written out they are the places with their counts; interning them.
use Rattle.std.specs.Prelude.{◌≡◌, Bool, true, false, List, ℕ, length}
use Rattle.spec.specs.Bytes.{Limits, Two, pick, ok}
use Rattle.spec.specs.Image.{Tables, kind_of, is_commutative}
use Rattle.spec.specs.Pool.{Pool, Interned, op_node, sort_runs}
use Rattle.spec.specs.Round.{action_term}
use Rattle.laws.specs.Bag.{Perm, perm-refl}
use Rattle.pools.specs.Pool.{RunsBelow, PoolValid, op-valid}
use Rattle.pools.specs.PoolIntern.{Interns}
use Rattle.pools.proofs.PoolIntern.{intern-enters}
use Rattle.pools.specs.PoolSort.{sort-perm, perm-below, action_runs}

pub action-perm : (t : Tables) (p : Pool) (o : ℕ) (l : List Two) → Perm l (action_runs t p o l)
action-perm t p o l = go (is_commutative (kind_of t o))
  where
    go : (b : Bool) → Perm l (pick b (sort_runs p l) l)
    go true = sort-perm p l
    go false = perm-refl l

-- The term of an operation over terms of the pool is entered, and the pool stays valid.
pub action-enters : (lim : Limits) (t : Tables) (p : Pool) → PoolValid p → (o : ℕ) (l : List Two) (r : Interned) → RunsBelow (length p) l → action_term lim t p o l ≡ ok r → Interns p (op_node o (action_runs t p o l)) r
unfolding action_term
action-enters lim t p v o l r b e = intern-enters lim p (op_node o (action_runs t p o l)) r v (op-valid (length p) o (action_runs t p o l) (perm-below (action-perm t p o l) b)) e
