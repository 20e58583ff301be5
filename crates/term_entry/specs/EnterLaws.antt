-- One term more: what the buffers hold after it.
use Rattle.std.specs.Prelude.{◌≡◌, ◌≢◌, ◌⊎◌, List, [], ◌∷◌, ◌++◌, length, get_or, set}
use Rattle.std.proofs.Math.Path.{refl, ap₂}
use Rattle.std.proofs.Common.{sym, ap, ◌∙◌, inl, inr, eq-or-lt_of_le, arith, length-set, get_or-set_same, get_or-set_other}
use Prim.Native.Nat.{ℕ, zero, suc, ◌+◌, ◌*◌, ◌-◌, ◌^◌, ◌≤◌, ◌<◌}
use Rattle.std.proofs.Math.Decide.{ℕ_discrete}
use Rattle.std.proofs.lemmas.List.Edits.{length-paste}
use Rattle.spec.specs.Bytes.{sum}
use Rattle.spec.specs.Pool.{Pool, Node, TERMS, RUNS}
use Rattle.pools.specs.Pool.{PoolValid}
use Rattle.terms.specs.Buffers.{BUCKETS, BUCKET, COUNT, FIRSTS, HEADS, VALUES, CHAINS, LEAST, part, node_of, node_in, nodes_in, pool_of, part_in, length_in, first_in, head_in, value_in, chain_in, bucket_in, count_in}
use Rattle.terms.specs.Chains.{key_of, key_in, Chained, Holds}
use Rattle.term_entry.specs.TermEntry.{put_term, enter_term, enter_runs}
use Rattle.terms.specs.PartLaws.{part-cong}
use Rattle.term_entry.specs.CopyLaws.{paste-part, paste-before}
use Rattle.terms.specs.PoolLaws.{first-rises}

-- where the new runs begin
pub first-at : {t f : ℕ} (terms : List ℕ) → t ≡ count_in terms → f ≡ first_in terms t → f ≡ first_in terms (count_in terms)
first-at terms e g = rw (← e) g

pub key-small : (h v : ℕ) (l : List ℕ) → key_of h v l < BUCKETS
unfolding key_of
key-small h v l = omega arith

-- a number that a store leaves alone; the number that it stores
other : (l : List ℕ) (i a j : ℕ) → j ≢ i → get_or (set l i a) j 0 ≡ get_or l j 0
other l i a j h = get_or-set_other l i j a 0 h

-- ---- the numbers after the term, N of them before: four stores of its own, its chain's, the count's
module _ (t : List ℕ) (N h v e b c : ℕ) (long : LEAST + (N + 1) * 4 ≤ length t) (small : b < BUCKETS) where
  abbrev s1 : List ℕ
  s1 = set t (HEADS + N * 4) h

  abbrev s2 : List ℕ
  s2 = set s1 (VALUES + N * 4) v

  abbrev s3 : List ℕ
  s3 = set s2 (FIRSTS + (N + 1) * 4) e

  abbrev s4 : List ℕ
  s4 = set s3 (CHAINS + N * 4) c

  abbrev s5 : List ℕ
  s5 = set s4 (BUCKET + b) (N + 1)

  abbrev s6 : List ℕ
  s6 = set s5 COUNT (N + 1)

  pub after-length : length s6 ≡ length t
  after-length = simp length-set

  pub after-below : (i : ℕ) → FIRSTS ≤ i → i < HEADS + N * 4 → get_or s6 i 0 ≡ get_or t i 0
  after-below i f k =
      other s5 COUNT (N + 1) i (omega arith)
      ∙ other s4 (BUCKET + b) (N + 1) i (omega arith)
      ∙ other s3 (CHAINS + N * 4) c i (omega arith)
      ∙ other s2 (FIRSTS + (N + 1) * 4) e i (omega arith)
      ∙ other s1 (VALUES + N * 4) v i (omega arith)
      ∙ other t (HEADS + N * 4) h i (omega arith)

  pub after-head : get_or s6 (HEADS + N * 4) 0 ≡ h
  after-head =
      other s5 COUNT (N + 1) (HEADS + N * 4) (omega arith)
      ∙ other s4 (BUCKET + b) (N + 1) (HEADS + N * 4) (omega arith)
      ∙ other s3 (CHAINS + N * 4) c (HEADS + N * 4) (omega arith)
      ∙ other s2 (FIRSTS + (N + 1) * 4) e (HEADS + N * 4) (omega arith)
      ∙ other s1 (VALUES + N * 4) v (HEADS + N * 4) (omega arith)
      ∙ get_or-set_same t (HEADS + N * 4) h 0 (omega arith)

  pub after-value : get_or s6 (VALUES + N * 4) 0 ≡ v
  after-value =
      other s5 COUNT (N + 1) (VALUES + N * 4) (omega arith)
      ∙ other s4 (BUCKET + b) (N + 1) (VALUES + N * 4) (omega arith)
      ∙ other s3 (CHAINS + N * 4) c (VALUES + N * 4) (omega arith)
      ∙ other s2 (FIRSTS + (N + 1) * 4) e (VALUES + N * 4) (omega arith)
      ∙ get_or-set_same s1 (VALUES + N * 4) v 0 (simp length-set (omega arith))

  pub after-chain : get_or s6 (CHAINS + N * 4) 0 ≡ c
  after-chain =
      other s5 COUNT (N + 1) (CHAINS + N * 4) (omega arith)
      ∙ other s4 (BUCKET + b) (N + 1) (CHAINS + N * 4) (omega arith)
      ∙ get_or-set_same s3 (CHAINS + N * 4) c 0 (simp length-set (omega arith))

  pub after-end : get_or s6 (FIRSTS + (N + 1) * 4) 0 ≡ e
  after-end =
      other s5 COUNT (N + 1) (FIRSTS + (N + 1) * 4) (omega arith)
      ∙ other s4 (BUCKET + b) (N + 1) (FIRSTS + (N + 1) * 4) (omega arith)
      ∙ other s3 (CHAINS + N * 4) c (FIRSTS + (N + 1) * 4) (omega arith)
      ∙ get_or-set_same s2 (FIRSTS + (N + 1) * 4) e 0 (simp length-set (omega arith))

  pub after-bucket : get_or s6 (BUCKET + b) 0 ≡ N + 1
  after-bucket = other s5 COUNT (N + 1) (BUCKET + b) (omega arith) ∙ get_or-set_same s4 (BUCKET + b) (N + 1) 0 (simp length-set (omega arith))

  pub after-bucket-other : (d : ℕ) → d < BUCKETS → d ≢ b → get_or s6 (BUCKET + d) 0 ≡ get_or t (BUCKET + d) 0
  after-bucket-other d k ne =
      other s5 COUNT (N + 1) (BUCKET + d) (omega arith)
      ∙ other s4 (BUCKET + b) (N + 1) (BUCKET + d) (omega arith)
      ∙ other s3 (CHAINS + N * 4) c (BUCKET + d) (omega arith)
      ∙ other s2 (FIRSTS + (N + 1) * 4) e (BUCKET + d) (omega arith)
      ∙ other s1 (VALUES + N * 4) v (BUCKET + d) (omega arith)
      ∙ other t (HEADS + N * 4) h (BUCKET + d) (omega arith)

  pub after-count : get_or s6 COUNT 0 ≡ N + 1
  after-count = get_or-set_same s5 COUNT (N + 1) 0 (simp length-set (omega arith))

  -- the chain's number is read after the term's own stores, which do not touch it
  pub bucket-kept : get_or s3 (BUCKET + b) 0 ≡ get_or t (BUCKET + b) 0
  bucket-kept =
      other s2 (FIRSTS + (N + 1) * 4) e (BUCKET + b) (omega arith)
      ∙ other s1 (VALUES + N * 4) v (BUCKET + b) (omega arith)
      ∙ other t (HEADS + N * 4) h (BUCKET + b) (omega arith)

-- What the buffers keep and gain when a term is entered.
pub record Adds (terms runs list : List ℕ) (h v n b : ℕ) (terms' runs' : List ℕ) : Type 0 where
  pub long_terms : length terms' ≡ length terms
  pub long_runs : length runs' ≡ length runs
  pub below : (i : ℕ) → FIRSTS ≤ i → i < HEADS + count_in terms * 4 → get_or terms' i 0 ≡ get_or terms i 0
  pub head : head_in terms' (count_in terms) ≡ h
  pub value : value_in terms' (count_in terms) ≡ v
  pub chain : chain_in terms' (count_in terms) ≡ bucket_in terms b
  pub end : first_in terms' (count_in terms + 1) ≡ first_in terms (count_in terms) + n
  pub bucket : bucket_in terms' b ≡ count_in terms + 1
  pub buckets : (d : ℕ) → d < BUCKETS → d ≢ b → bucket_in terms' d ≡ bucket_in terms d
  pub count : count_in terms' ≡ count_in terms + 1
  pub runs_below : (i : ℕ) → i < first_in terms (count_in terms) → get_or runs' i 0 ≡ get_or runs i 0
  pub entered : part runs' (first_in terms (count_in terms)) n ≡ part list 0 n

pub adds : (terms runs list : List ℕ) (h v n b : ℕ) → LEAST + (count_in terms + 1) * 4 ≤ length terms → first_in terms (count_in terms) + n ≤ length runs → b < BUCKETS → n ≤ length list
    → Adds terms runs list h v n b (enter_term terms h v n b) (enter_runs terms runs list n)
unfolding enter_term enter_runs
adds terms runs list h v n b room fits small long = record {
  long_terms = after-length t N h v e b c room small;
  long_runs = length-paste runs (first_in terms N) list n fits long;
  below = after-below t N h v e b c room small;
  head = after-head t N h v e b c room small;
  value = after-value t N h v e b c room small;
  chain = after-chain t N h v e b c room small ∙ bucket-kept t N h v e b c room small;
  end = after-end t N h v e b c room small;
  bucket = after-bucket t N h v e b c room small;
  buckets = after-bucket-other t N h v e b c room small;
  count = after-count t N h v e b c room small;
  runs_below = λ i k. paste-before runs list (first_in terms N) n i k (omega arith);
  entered = paste-part runs list (first_in terms N) n fits long;
}
  where
    t : List ℕ
    t = terms

    N : ℕ
    N = count_in terms

    e : ℕ
    e = first_in terms (count_in terms) + n

    c : ℕ
    c = bucket_in (put_term terms (count_in terms) h v (first_in terms (count_in terms) + n)) b

module _ (terms runs list : List ℕ) (h v n b : ℕ) (H : Holds terms runs) (own : b ≡ key_of h v (part list 0 n)) (terms' runs' : List ℕ) (A : Adds terms runs list h v n b terms' runs') where
  first-same : (i : ℕ) → i ≤ count_in terms → first_in terms' i ≡ first_in terms i
  first-same i k = A.below (FIRSTS + i * 4) (omega arith) (omega arith)

  part_same : (i : ℕ) → i < count_in terms → part_in terms' runs' i ≡ part_in terms runs i
  part_same i k =
      rw (first-same i (omega arith), first-same (i + 1) (omega arith))
      (part-cong runs' runs (first_in terms i) (first_in terms i) (length_in terms i) (λ j q. A.runs_below (first_in terms i + j) (omega (arith, first-rises terms runs H (i + 1) (omega arith)))))

  pub node-same : (i : ℕ) → i < count_in terms → node_in terms' runs' i ≡ node_in terms runs i
  node-same i k = rw (A.below (HEADS + i * 4) (omega arith) (omega arith), A.below (VALUES + i * 4) (omega arith) (omega arith), part_same i k) refl

  key-same : (i : ℕ) → i < count_in terms → key_in terms' runs' i ≡ key_in terms runs i
  key-same i k = rw (A.below (HEADS + i * 4) (omega arith) (omega arith), A.below (VALUES + i * 4) (omega arith) (omega arith), part_same i k) refl

  part-new : part_in terms' runs' (count_in terms) ≡ part list 0 n
  part-new = let z : first_in terms (count_in terms) + n - first_in terms (count_in terms) ≡ n = omega arith in rw (A.end, first-same (count_in terms) (omega arith), z) A.entered

  pub node-new : node_in terms' runs' (count_in terms) ≡ node_of h v (part list 0 n)
  node-new = rw (A.head, A.value, part-new) refl

  key-new : key_in terms' runs' (count_in terms) ≡ b
  key-new = rw (A.head, A.value, part-new) (sym own)

  nodes-same : (k : ℕ) → k ≤ count_in terms → nodes_in terms' runs' k ≡ nodes_in terms runs k
  unfolding nodes_in
  nodes-same zero q = refl
  nodes-same (suc k) q = ap₂ (λ (p : Pool) (x : Node). p ++ (x ∷ [])) (nodes-same k (omega arith)) (node-same k (omega arith))

  pub pool-new : pool_of terms' runs' ≡ pool_of terms runs ++ (node_of h v (part list 0 n) ∷ [])
  unfolding nodes_in
  pool-new = let z : count_in terms' ≡ suc (count_in terms) = omega (arith, A.count) in rw z (ap₂ (λ (p : Pool) (x : Node). p ++ (x ∷ [])) (nodes-same (count_in terms) (omega arith)) node-new)

  either-new : {i : ℕ} → i < count_in terms + 1 → (i ≡ count_in terms) ⊎ (i < count_in terms)
  either-new {i} k = eq-or-lt_of_le {n = i} {m = count_in terms} (omega arith)

  chains-some : (d : ℕ) → d < BUCKETS → bucket_in terms' d ≤ count_in terms + 1
  chains-some d k = go (ℕ_discrete d b)
    where
      go : Dec (d ≡ b) → bucket_in terms' d ≤ count_in terms + 1
      go (yes e) = rw e (omega (arith, A.bucket))
      go (no e) = omega (arith, A.buckets d k e, H.chained.some d k)

  chains-last : (d : ℕ) → d < BUCKETS → 0 < bucket_in terms' d → key_in terms' runs' (bucket_in terms' d - 1) ≡ d
  chains-last d k z = go (ℕ_discrete d b)
    where
      go : Dec (d ≡ b) → key_in terms' runs' (bucket_in terms' d - 1) ≡ d
      go (yes e) = let q : count_in terms + 1 - 1 ≡ count_in terms = omega arith in rw (e, A.bucket, q) key-new
      go (no e) =
          let y : 0 < bucket_in terms d = rw (A.buckets d k e) at z in
          rw (A.buckets d k e) (key-same (bucket_in terms d - 1) (omega (arith, H.chained.some d k)) ∙ H.chained.last d k y)

  chains-all : (i : ℕ) → i < count_in terms + 1 → i < bucket_in terms' (key_in terms' runs' i)
  chains-all i k = go (either-new k)
    where
      at : (d : ℕ) → d < BUCKETS → i < count_in terms → i < bucket_in terms d → Dec (d ≡ b) → i < bucket_in terms' d
      at d s q l (yes e) = rw e (omega (arith, A.bucket))
      at d s q l (no e) = rw (A.buckets d s e) l

      go : (i ≡ count_in terms) ⊎ (i < count_in terms) → i < bucket_in terms' (key_in terms' runs' i)
      go (inl e) = rw (e, key-new) (omega (arith, A.bucket))
      go (inr q) = rw (key-same i q) (at (key_in terms runs i) (key-small (head_in terms i) (value_in terms i) (part_in terms runs i)) q (H.chained.all i q) (ℕ_discrete (key_in terms runs i) b))

  chain_same : (i : ℕ) → i < count_in terms → chain_in terms' i ≡ chain_in terms i
  chain_same i k = A.below (CHAINS + i * 4) (omega arith) (omega arith)

  chains-falls : b < BUCKETS → (i : ℕ) → i < count_in terms + 1 → chain_in terms' i ≤ i
  chains-falls s i k = go (either-new k)
    where
      go : (i ≡ count_in terms) ⊎ (i < count_in terms) → chain_in terms' i ≤ i
      go (inl e) = rw e (omega (arith, A.chain, H.chained.some b s))
      go (inr q) = omega (arith, chain_same i q, H.chained.falls i q)

  chains-link : b < BUCKETS → (i : ℕ) → i < count_in terms + 1 → 0 < chain_in terms' i → key_in terms' runs' (chain_in terms' i - 1) ≡ key_in terms' runs' i
  chains-link s i k z = go (either-new k) z
    where
      go : (i ≡ count_in terms) ⊎ (i < count_in terms) → 0 < chain_in terms' i → key_in terms' runs' (chain_in terms' i - 1) ≡ key_in terms' runs' i
      go (inl e) z =
          let y : 0 < bucket_in terms b = rw (e, A.chain) at z in
          rw (e, A.chain) (key-same (bucket_in terms b - 1) (omega (arith, H.chained.some b s)) ∙ H.chained.last b s y ∙ sym key-new)
      go (inr q) z =
          let y : 0 < chain_in terms i = rw (chain_same i q) at z in
          rw (chain_same i q) (key-same (chain_in terms i - 1) (omega (arith, H.chained.falls i q)) ∙ H.chained.link i q y ∙ sym (key-same i q))

  chains-next : (i j : ℕ) → i < count_in terms + 1 → j < i → key_in terms' runs' j ≡ key_in terms' runs' i → j < chain_in terms' i
  chains-next i j k l e = go (either-new k)
    where
      go : (i ≡ count_in terms) ⊎ (i < count_in terms) → j < chain_in terms' i
      go (inl z) =
          let q : j < count_in terms = omega arith in
          let w : key_in terms runs j ≡ b = sym (key-same j q) ∙ e ∙ ap (λ (x : ℕ). key_in terms' runs' x) z ∙ key-new in
          rw (z, A.chain) (rw w at (H.chained.all j q))
      go (inr q) = rw (chain_same i q) (H.chained.next i j q l (sym (key-same j (omega arith)) ∙ e ∙ key-same i q))

  pub chained-new : b < BUCKETS → Chained terms' runs' (count_in terms')
  chained-new s = rw A.count (record { some = chains-some; last = chains-last; all = chains-all; falls = chains-falls s; link = chains-link s; next = chains-next })

  rises-new : (i : ℕ) → i < count_in terms + 1 → first_in terms' i ≤ first_in terms' (i + 1)
  rises-new i k = go (either-new k)
    where
      go : (i ≡ count_in terms) ⊎ (i < count_in terms) → first_in terms' i ≤ first_in terms' (i + 1)
      go (inl e) = rw e (omega (arith, A.end, first-same (count_in terms) (omega arith)))
      go (inr q) = omega (arith, first-same i (omega arith), first-same (i + 1) (omega arith), H.rises i q)

  light-new : sum (part list 0 n) < 2 ^ 64 → (i : ℕ) → i < count_in terms + 1 → sum (part_in terms' runs' i) < 2 ^ 64
  light-new l i k = go (either-new k)
    where
      go : (i ≡ count_in terms) ⊎ (i < count_in terms) → sum (part_in terms' runs' i) < 2 ^ 64
      go (inl e) = rw (e, part-new) l
      go (inr q) = rw (part_same i q) (H.light i q)

  -- the buffers hold the longer pool
  pub holds-new : b < BUCKETS → count_in terms < TERMS → first_in terms (count_in terms) + n ≤ RUNS → LEAST + (count_in terms + 1) * 4 ≤ length terms → first_in terms (count_in terms) + n ≤ length runs → sum (part list 0 n) < 2 ^ 64 → PoolValid (pool_of terms' runs') → Holds terms' runs'
  holds-new s few ends room fits light w = record {
    long = omega (arith, A.long_terms, A.count);
    roomy = rw A.count (omega (arith, A.long_runs, A.end));
    few = omega (arith, A.count);
    begins = first-same 0 (omega arith) ∙ H.begins;
    rises = rw A.count rises-new;
    ends = rw A.count (omega (arith, A.end));
    chained = chained-new s;
    light = rw A.count (light-new light);
    valid = w;
  }
