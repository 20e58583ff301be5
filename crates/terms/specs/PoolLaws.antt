-- The pool that the buffers hold: its entries, and where their runs stand.
use Rattle.std.specs.Prelude.{◌≡◌, refl, ◌⊎◌, List, [], ◌∷◌, ◌++◌, ℕ, zero, suc, ◌+◌, ◌-◌, ◌^◌, ◌≤◌, ◌<◌, length}
use Rattle.std.proofs.Common.{sym, ap, ◌∙◌, inl, inr, not-suc-le-zero, eq-or-lt_of_le, arith, length-append}
use Rattle.std.proofs.Math.ListN.{get_or-append}
use Rattle.spec.specs.Bytes.{Limits, sum}
use Rattle.spec.specs.Pool.{node_at, RUNS}
use Rattle.pools.specs.Pool.{get_d-last}
use Rattle.terms.specs.Buffers.{part, node_in, nodes_in, pool_of, length_in, first_in, count_in}
use Rattle.terms.specs.Chains.{Holds, Rooms}

-- ---- the entries
pub nodes-length : (terms runs : List ℕ) (n : ℕ) → length (nodes_in terms runs n) ≡ n
unfolding nodes_in
nodes-length terms runs zero = refl
nodes-length terms runs (suc n) = omega (arith, nodes-length terms runs n, length-append (nodes_in terms runs n) (node_in terms runs n ∷ []))

pub nodes-at : (terms runs : List ℕ) (n i : ℕ) → i < n → node_at (nodes_in terms runs n) i ≡ node_in terms runs i
unfolding nodes_in
nodes-at terms runs zero i h = absurd (not-suc-le-zero h)
nodes-at terms runs (suc n) i h = go (eq-or-lt_of_le {n = i} {m = n} (omega arith)) (λ l. nodes-at terms runs n i l)
  where
    go : (i ≡ n) ⊎ (i < n) → (i < n → node_at (nodes_in terms runs n) i ≡ node_in terms runs i) → node_at (nodes_in terms runs n ++ (node_in terms runs n ∷ [])) i ≡ node_in terms runs i
    go (inl e) ih =
        let z : i ≡ length (nodes_in terms runs n) = omega (arith, nodes-length terms runs n) in
        ap (λ (k : ℕ). node_at (nodes_in terms runs n ++ (node_in terms runs n ∷ [])) k) z ∙ get_d-last (nodes_in terms runs n) (node_in terms runs n) _ ∙ ap (λ (k : ℕ). node_in terms runs k) (sym e)
    go (inr l) ih = get_or-append (nodes_in terms runs n) (node_in terms runs n ∷ []) _ i (omega (arith, nodes-length terms runs n)) ∙ ih l

pub pool-length : (terms runs : List ℕ) → length (pool_of terms runs) ≡ count_in terms
pool-length terms runs = nodes-length terms runs (count_in terms)

pub pool-at : (terms runs : List ℕ) (i : ℕ) → i < count_in terms → node_at (pool_of terms runs) i ≡ node_in terms runs i
pool-at terms runs i h = nodes-at terms runs (count_in terms) i h

-- ---- where runs stand
module _ (terms runs : List ℕ) (H : Holds terms runs) where
  up : (d i : ℕ) → i + d ≤ count_in terms → first_in terms i ≤ first_in terms (i + d)
  up zero i h = let e : i + 0 ≡ i = omega arith in rw e (omega arith)
  up (suc d) i h = let e : i + suc d ≡ i + 1 + d = omega arith in rw e (omega (arith, H.rises i (omega arith), up d (i + 1) (omega arith)))

  pub first-rises : (i : ℕ) → i ≤ count_in terms → first_in terms i ≤ first_in terms (count_in terms)
  first-rises i h = let e : i + (count_in terms - i) ≡ count_in terms = omega arith in rw e at (up (count_in terms - i) i (omega arith))

  pub first_fits : (i : ℕ) → i ≤ count_in terms → first_in terms i ≤ RUNS
  first_fits i h = omega (arith, H.ends, first-rises i h)

  pub runs_fit : (i : ℕ) → i < count_in terms → first_in terms i + length_in terms i ≤ RUNS
  runs_fit i h = omega (arith, first_fits (i + 1) (omega arith), H.rises i h)

  pub first-inside : (i : ℕ) → i ≤ count_in terms → first_in terms i ≤ length runs
  first-inside i h = omega (arith, H.roomy, first-rises i h)

  pub runs-inside : (i : ℕ) → i < count_in terms → first_in terms i + length_in terms i ≤ length runs
  runs-inside i h = omega (arith, first-inside (i + 1) (omega arith), H.rises i h)

  -- the runs of term t, from i to before m
  pub span_fits : (t i m : ℕ) → t < count_in terms → i ≡ first_in terms t → m ≡ first_in terms (t + 1) → (i ≤ m) × (m ≤ length runs) × (sum (part runs i (m - i)) < 2 ^ 64)
  span_fits t i m h e f = rw (e, f) (H.rises t h, first-inside (t + 1) (omega arith), H.light t h)

-- buffers of the same lengths have the same room
pub rooms_same : {lim : Limits} {terms runs terms' runs' : List ℕ} → length terms' ≡ length terms → length runs' ≡ length runs → Rooms lim terms runs → Rooms lim terms' runs'
rooms_same e f r = record { few = r.few; ends = r.ends; long = omega (arith, r.long); roomy = omega (arith, r.roomy) }
