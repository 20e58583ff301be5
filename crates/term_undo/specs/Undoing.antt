-- Terms taken back: what the buffers hold then.
use Rattle.std.specs.Prelude.{◌≡◌, List, ◌++◌, ℕ, zero, suc, ◌+◌, ◌*◌, ◌-◌, ◌≤◌, get_or, set, take, drop, replicate}
use Rattle.terms.specs.Buffers.{BUCKET, COUNT, CHAINS, LEAST, first_in, chain_in, count_in, pool_of}
use Rattle.terms.specs.Chains.{key_in, Holds}
use Rattle.term_entry.specs.TermEntry.{put_term}
use Rattle.interning.specs.Growing.{Buffers}

-- the last term, i: its numbers are zero, its chain ends with the term before it, it is not counted
abbrev pub undo_term : List ℕ → ℕ → ℕ → List ℕ
undo_term terms i b = set (set (set (put_term terms i 0 0 0) (CHAINS + i * 4) 0) (BUCKET + b) (chain_in terms i)) COUNT i

-- its runs are zero
abbrev pub undo_runs : List ℕ → ℕ → ℕ → List ℕ
undo_runs runs from end = take from runs ++ (replicate (end - from) 0 ++ drop end runs)

abbrev pub undo_at : ℕ → Buffers → Buffers
undo_at i b = (undo_term b.0 i (key_in b.0 b.1 i), undo_runs b.1 (first_in b.0 i) (first_in b.0 (i + 1)))

-- the last term goes; the last k terms go, from the last down
abbrev pub undo_last : Buffers → Buffers
undo_last b = undo_at (count_in b.0 - 1) b

unfoldable pub undo_over : ℕ → Buffers → Buffers
undo_over zero b = b
undo_over (suc k) b = undo_over k (undo_last b)

-- The buffers hold their first n terms again.
pub record TakenBack (n : ℕ) (terms runs terms' runs' : List ℕ) : Type 0 where
  pub numbers : ◌≡◌ {A = Buffers} (terms', runs') (undo_over (count_in terms - n) (terms, runs))
  pub pool : pool_of terms' runs' ≡ take n (pool_of terms runs)
  pub holds : Holds terms' runs'

-- nothing but zeros behind the pool
pub record Clean (terms runs : List ℕ) : Type 0 where
  pub past_terms : (i : ℕ) → LEAST + count_in terms * 4 ≤ i → get_or terms i 0 ≡ 0
  pub past_runs : (i : ℕ) → first_in terms (count_in terms) ≤ i → get_or runs i 0 ≡ 0
