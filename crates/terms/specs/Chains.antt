-- Chains: terms with the same key stand in one chain, which a search for a node walks.
use Rattle.std.specs.Prelude.{◌≡◌, List, [], ◌∷◌, ℕ, ◌+◌, ◌*◌, ◌-◌, ◌/◌, ◌%◌, ◌^◌, ◌≤◌, ◌<◌, length}
use Rattle.spec.specs.Bytes.{Limits, sum}
use Rattle.spec.specs.Pool.{TERMS, RUNS}
use Rattle.pools.specs.Pool.{PoolValid}
use Rattle.terms.specs.Buffers.{BUCKETS, LEAST, first_in, head_in, value_in, chain_in, bucket_in, count_in, part_in, pool_of}

abbrev pub mix_of : ℕ → ℕ → ℕ
mix_of x r = (x * 31 + r % 4294967296 + r / 4294967296) % 4294967296

unfoldable pub mix_all : ℕ → List ℕ → ℕ
mix_all x [] = x
mix_all x (r ∷ l) = mix_all (mix_of x r) l

abbrev pub fold : ℕ → ℕ
fold x = (x + x / 1024 + x / 1048576) % 1024

-- the key of a node, by its numbers
unfoldable pub key_of : ℕ → ℕ → List ℕ → ℕ
unfolding mix_all
key_of h v l = fold (mix_all ((h * 4096 + v) % 4294967296) l)

abbrev pub key_in : List ℕ → List ℕ → ℕ → ℕ
key_in terms runs i = key_of (head_in terms i) (value_in terms i) (part_in terms runs i)

-- Every term is in the chain of its key, chains fall, and nothing else is in them.
pub record Chained (terms runs : List ℕ) (n : ℕ) : Type 0 where
  pub some : (b : ℕ) → b < BUCKETS → bucket_in terms b ≤ n
  pub last : (b : ℕ) → b < BUCKETS → 0 < bucket_in terms b → key_in terms runs (bucket_in terms b - 1) ≡ b
  pub all : (i : ℕ) → i < n → i < bucket_in terms (key_in terms runs i)
  pub falls : (i : ℕ) → i < n → chain_in terms i ≤ i
  pub link : (i : ℕ) → i < n → 0 < chain_in terms i → key_in terms runs (chain_in terms i - 1) ≡ key_in terms runs i
  pub next : (i j : ℕ) → i < n → j < i → key_in terms runs j ≡ key_in terms runs i → j < chain_in terms i

-- Buffers for every pool within the limits, and these no larger than document 01's.
pub record Rooms (lim : Limits) (terms runs : List ℕ) : Type 0 where
  pub few : lim.terms ≤ TERMS
  pub ends : lim.runs ≤ RUNS
  pub long : LEAST + lim.terms * 4 ≤ length terms
  pub roomy : lim.runs ≤ length runs

-- The buffers hold a pool.
pub record Holds (terms runs : List ℕ) : Type 0 where
  pub long : LEAST + count_in terms * 4 ≤ length terms
  pub roomy : first_in terms (count_in terms) ≤ length runs
  pub few : count_in terms ≤ TERMS
  pub begins : first_in terms 0 ≡ 0
  pub rises : (i : ℕ) → i < count_in terms → first_in terms i ≤ first_in terms (i + 1)
  pub ends : first_in terms (count_in terms) ≤ RUNS
  pub chained : Chained terms runs (count_in terms)
  -- an expanded child list has fewer than 2^64 entries
  pub light : (i : ℕ) → i < count_in terms → sum (part_in terms runs i) < 2 ^ 64
  pub valid : PoolValid (pool_of terms runs)
