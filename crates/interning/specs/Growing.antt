-- What the buffers hold when nodes were added to what they held.
use Rattle.std.specs.Prelude.{◌≡◌, List, [], ◌∷◌, map, ℕ, ◌+◌, ◌*◌, length, drop}
use Rattle.spec.specs.Pool.{Pool, Node}
use Rattle.pools.specs.PoolIntern.{Extends}
use Rattle.terms.specs.Buffers.{pack, pool_of}
use Rattle.terms.specs.Chains.{key_of, Holds}
use Rattle.term_entry.specs.TermEntry.{enter_term, enter_runs}

-- the pool's two buffers: terms, runs
abbrev pub Buffers : Type 0
Buffers = List ℕ × List ℕ

-- a node's numbers: operation o is o, a literal of operation o is 64 + o, a marked place is 128; its runs
abbrev pub head_of : Node → ℕ
head_of n = n.head * 64 + n.op

abbrev pub packed : Node → List ℕ
packed n = map pack n.runs

-- one node more
abbrev pub laid : Buffers → Node → Buffers
laid b n = (enter_term b.0 (head_of n) n.value (length n.runs) (key_of (head_of n) n.value (packed n)), enter_runs b.0 b.1 (packed n) (length n.runs))

-- the nodes one after the other
unfoldable pub laid_over : Buffers → List Node → Buffers
unfolding enter_term enter_runs key_of
laid_over b [] = b
laid_over b (n ∷ l) = laid_over (laid b n) l

-- The buffers grew to pool p' from the pool they held: every number is that of the nodes that were added, in their order, or is as it was.
pub record Grows (terms runs terms' runs' : List ℕ) (p' : Pool) : Type 0 where
  pub pool : pool_of terms' runs' ≡ p'
  pub holds : Holds terms' runs'
  pub grown : Extends (pool_of terms runs) p'
  pub numbers : ◌≡◌ {A = Buffers} (terms', runs') (laid_over (terms, runs) (drop (length (pool_of terms runs)) p'))
