-- The empty pool: its numbers in buffers with any content.
use Rattle.std.specs.Prelude.{◌≡◌, List, [], ◌++◌, ℕ, zero, suc, ◌+◌, ◌≤◌, ◌<◌, length, get_or, drop, replicate}
use Rattle.std.proofs.Math.Path.{refl}
use Rattle.std.proofs.Common.{not-suc-le-zero, arith}
use Rattle.std.proofs.Math.ListN.{length-append, length-drop, length-replicate}
use Rattle.pools.specs.Pool.{empty-valid}
use Rattle.terms.specs.Buffers.{BUCKETS, BUCKET, COUNT, FIRSTS, LEAST, nodes_in, pool_of, first_in, bucket_in, count_in}
use Rattle.terms.specs.Chains.{Holds}

-- no term: the chains' last terms, the count and where the first term's runs begin are 0
unfoldable pub emptied : List ℕ → List ℕ
emptied terms = replicate LEAST 0 ++ drop LEAST terms

front-zero : (n : ℕ) (l : List ℕ) (i : ℕ) → i < n → get_or (replicate n 0 ++ l) i 0 ≡ 0
front-zero zero l i h = absurd (not-suc-le-zero h)
front-zero (suc n) l zero h = refl
front-zero (suc n) l (suc i) h = front-zero n l i (omega arith)

-- ---- buffers without a term
module _ (terms runs : List ℕ) (none : count_in terms ≡ 0) where
  pub pool-none : pool_of terms runs ≡ []
  unfolding nodes_in
  pool-none = rw none refl

  pub holds-none : LEAST ≤ length terms → first_in terms 0 ≡ 0 → ((b : ℕ) → b < BUCKETS → bucket_in terms b ≡ 0) → Holds terms runs
  holds-none long first chains = record {
    long = omega arith;
    roomy = rw (none, first) (omega arith);
    few = omega arith;
    begins = first;
    rises = λ i h. no i h;
    ends = rw (none, first) (omega arith);
    chained = record {
      some = λ b h. omega (arith, chains b h);
      last = λ b h z. absurd (omega (arith, chains b h));
      all = λ i h. no i h;
      falls = λ i h. no i h;
      link = λ i h. no i h;
      next = λ i j h. no i h;
    };
    light = λ i h. no i h;
    valid = rw pool-none empty-valid;
  }
    where
      no : {A : Type 0} (i : ℕ) → i < count_in terms → A
      no i h = absurd (omega arith)

module _ (terms runs : List ℕ) where
  emptied-at : (i : ℕ) → i < LEAST → get_or (emptied terms) i 0 ≡ 0
  unfolding emptied
  emptied-at i h = front-zero LEAST (drop LEAST terms) i h

  pub emptied-length : LEAST ≤ length terms → length (emptied terms) ≡ length terms
  unfolding emptied
  emptied-length h = omega (arith, length-append (replicate LEAST 0) (drop LEAST terms), length-replicate {A = ℕ} LEAST 0, length-drop LEAST terms)

  -- Emptied buffers hold the empty pool.
  pub emptied-holds : LEAST ≤ length terms → Holds (emptied terms) runs
  emptied-holds h = holds-none (emptied terms) runs (emptied-at COUNT (omega arith)) (omega (arith, emptied-length h)) (emptied-at FIRSTS (omega arith)) (λ b k. emptied-at (BUCKET + b) (omega arith))

  pub emptied-pool : pool_of (emptied terms) runs ≡ []
  emptied-pool = pool-none (emptied terms) runs (emptied-at COUNT (omega arith))

-- ---- buffers of zeros
zeros-at : (n i : ℕ) → ◌≡◌ {A = ℕ} (get_or (replicate n 0) i 0) 0
zeros-at zero i = refl
zeros-at (suc n) zero = refl
zeros-at (suc n) (suc i) = zeros-at n i

module _ (m n : ℕ) where
  -- Buffers of zeros hold the empty pool.
  pub zeros-hold : LEAST ≤ m → Holds (replicate m 0) (replicate n 0)
  zeros-hold h = holds-none (replicate m 0) (replicate n 0) (zeros-at m COUNT) (omega (arith, length-replicate {A = ℕ} m 0)) (zeros-at m FIRSTS) (λ b l. zeros-at m (BUCKET + b))

  pub zeros-pool : pool_of (replicate m 0) (replicate n 0) ≡ []
  zeros-pool = pool-none (replicate m 0) (replicate n 0) (zeros-at m COUNT)
