-- What interning leaves in the buffers, and its answer.
use Rattle.std.specs.Prelude.{◌≡◌, Bool, true, false, List, ℕ, ◌-◌, ◌≤◌, ◌<◌, ltb, length, Option, Some, None}
use Rattle.spec.specs.Bytes.{Limits, pick, Res, ok, refused}
use Rattle.spec.specs.Pool.{Pool, Node, Interned, intern}
use Rattle.terms.specs.Buffers.{count_in, pool_of, part, node_in, node_of}
use Rattle.terms.specs.Chains.{Holds, key_of}
use Rattle.term_entry.specs.TermEntry.{enter_term, enter_runs}

-- a test's answer: the fact, or that it does not hold
abbrev pub Tells : Bool → Type 0 → Type 0
Tells true a = a
Tells false a = a → ⊥

-- A search's answer: the node's number plus 1, or 0 where no entry is the node.
pub record Sought (terms runs : List ℕ) (n : Node) (r : ℕ) : Type 0 where
  pub there : 0 < r → (r ≤ count_in terms) × (node_in terms runs (r - 1) ≡ n)
  pub absent : r ≡ 0 → (i : ℕ) → i < count_in terms → node_in terms runs i ≡ n → ⊥

-- refusal 13 is `None`
abbrev pub entered_of : Res Interned → Option ℕ
entered_of (ok r) = Some r.term
entered_of (refused n) = None

abbrev pub pool_after : Pool → Res Interned → Pool
pool_after p (ok r) = r.pool
pool_after p (refused n) = p

-- the pool grew
abbrev pub grew : Pool → Res Interned → Bool
grew p r = ltb (length p) (length (pool_after p r))

-- `intern` of the node with head h, value v and the n runs of list
pub record Interning (lim : Limits) (terms runs list : List ℕ) (n h v : ℕ) (terms' runs' : List ℕ) (r : Option ℕ) : Type 0 where
  pub answer : r ≡ entered_of (intern lim (pool_of terms runs) (node_of h v (part list 0 n)))
  pub pool : pool_of terms' runs' ≡ pool_after (pool_of terms runs) (intern lim (pool_of terms runs) (node_of h v (part list 0 n)))
  pub holds : Holds terms' runs'
  pub terms_are : terms' ≡ pick (grew (pool_of terms runs) (intern lim (pool_of terms runs) (node_of h v (part list 0 n)))) (enter_term terms h v n (key_of h v (part list 0 n))) terms
  pub runs_are : runs' ≡ pick (grew (pool_of terms runs) (intern lim (pool_of terms runs) (node_of h v (part list 0 n)))) (enter_runs terms runs list n) runs
