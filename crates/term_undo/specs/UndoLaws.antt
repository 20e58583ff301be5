-- One term less: what the buffers hold after it.
use Rattle.std.specs.Prelude.{◌≡◌, ◌≢◌, length, get_or, set, take, drop, replicate}
use Rattle.std.proofs.Math.Path.{refl, sym, ap, ap₂}
use Rattle.std.proofs.Common.{◌∙◌, length-set, length-append, length-drop, get_or-set_same, get_or-set_other, get_or-take, get_or-drop, length-take-le, take_all, take_at}
use mathlib.Core.List.{List, [], ◌∷◌, ◌++◌}
use Prim.Native.Nat.{ℕ, zero, suc, ◌+◌, ◌*◌, ◌-◌, ◌≤◌, ◌<◌}
use Rattle.std.proofs.Math.Decide.{ℕ_discrete, dec_le}
use native.Mathlib.Omega.{arith}
use Rattle.std.proofs.lemmas.List.{length-replicate}
use Rattle.std.proofs.Math.ListN.{get_or-append}
use borrow.Rule.Slice.PartMut.{put_mid, Post-is}
use borrow.Author.Rules.{part_to_end}
use Rattle.std.proofs.Math.Seq.{take-take}
use Rattle.spec.specs.Pool.{Pool, Node, node_at}
use Rattle.pools.specs.Pool.{PoolValid}
use Rattle.terms.specs.Buffers.{BUCKETS, BUCKET, COUNT, FIRSTS, HEADS, VALUES, CHAINS, LEAST, part, node_in, nodes_in, pool_of, part_in, length_in, first_in, head_in, value_in, chain_in, bucket_in, count_in}
use Rattle.terms.specs.Chains.{key_of, key_in, Chained, Holds}
use Rattle.terms.specs.PartLaws.{part-cong}
use Rattle.terms.specs.PoolLaws.{first-rises, nodes-length, pool-length, pool-at}
use Rattle.term_entry.specs.EnterLaws.{key-small}
use Rattle.term_undo.specs.Undoing.{undo_term, undo_runs, undo_at, undo_over, TakenBack}

-- a number that a store leaves alone
other : (l : List ℕ) (i a j : ℕ) → j ≢ i → get_or (set l i a) j 0 ≡ get_or l j 0
other l i a j h = get_or-set_other l i j a 0 h

-- What the buffers keep when their last term, i, goes.
pub record Removes (terms runs : List ℕ) (i b : ℕ) (terms' runs' : List ℕ) : Type 0 where
  pub long_terms : length terms' ≡ length terms
  pub long_runs : length runs' ≡ length runs
  pub below : (j : ℕ) → FIRSTS ≤ j → j < HEADS + i * 4 → get_or terms' j 0 ≡ get_or terms j 0
  pub bucket : bucket_in terms' b ≡ chain_in terms i
  pub buckets : (d : ℕ) → d < BUCKETS → d ≢ b → bucket_in terms' d ≡ bucket_in terms d
  pub count : count_in terms' ≡ i
  pub runs_below : (j : ℕ) → j < first_in terms i → get_or runs' j 0 ≡ get_or runs j 0

-- ---- the six stores of a term, i, that comes or goes
module _ (t : List ℕ) (i b h v e c x y : ℕ) where
  abbrev s1 : List ℕ
  s1 = set t (HEADS + i * 4) h

  abbrev s2 : List ℕ
  s2 = set s1 (VALUES + i * 4) v

  abbrev s3 : List ℕ
  s3 = set s2 (FIRSTS + (i + 1) * 4) e

  abbrev s4 : List ℕ
  s4 = set s3 (CHAINS + i * 4) c

  abbrev s5 : List ℕ
  s5 = set s4 (BUCKET + b) x

  abbrev s6 : List ℕ
  s6 = set s5 COUNT y

  six-length : length s6 ≡ length t
  six-length = simp length-set

  -- a number that is none of the six
  pub six-other : (j : ℕ) → j ≢ COUNT → j ≢ BUCKET + b → j ≢ CHAINS + i * 4 → j ≢ FIRSTS + (i + 1) * 4 → j ≢ VALUES + i * 4 → j ≢ HEADS + i * 4 → get_or s6 j 0 ≡ get_or t j 0
  six-other j p q r s u w =
      other s5 COUNT y j p
      ∙ other s4 (BUCKET + b) x j q
      ∙ other s3 (CHAINS + i * 4) c j r
      ∙ other s2 (FIRSTS + (i + 1) * 4) e j s
      ∙ other s1 (VALUES + i * 4) v j u
      ∙ other t (HEADS + i * 4) h j w

  module _ (long : LEAST + (i + 1) * 4 ≤ length t) (small : b < BUCKETS) where
    six-bucket : get_or s6 (BUCKET + b) 0 ≡ x
    six-bucket = other s5 COUNT y (BUCKET + b) (omega arith) ∙ get_or-set_same s4 (BUCKET + b) x 0 (simp length-set (omega arith))

    six-count : get_or s6 COUNT 0 ≡ y
    six-count = get_or-set_same s5 COUNT y 0 (simp length-set (omega arith))

pub undo-runs-below : (runs : List ℕ) (from end j : ℕ) → j < from → from ≤ length runs → get_or (undo_runs runs from end) j 0 ≡ get_or runs j 0
undo-runs-below runs from end j h k = get_or-append (take from runs) _ 0 j (omega (arith, length-take-le from runs k)) ∙ get_or-take from runs j 0 h

pub undo-runs-length : (runs : List ℕ) (from end : ℕ) → from ≤ end → end ≤ length runs → length (undo_runs runs from end) ≡ length runs
undo-runs-length runs from end h k =
    omega (arith, length-append (take from runs) (replicate (end - from) 0 ++ drop end runs), length-append (replicate (end - from) 0) (drop end runs), length-take-le from runs (omega arith), length-replicate {A = ℕ} (end - from) 0, length-drop end runs)

pub removes : (terms runs : List ℕ) (i b : ℕ) → LEAST + (i + 1) * 4 ≤ length terms → b < BUCKETS → first_in terms i ≤ first_in terms (i + 1) → first_in terms (i + 1) ≤ length runs
    → Removes terms runs i b (undo_term terms i b) (undo_runs runs (first_in terms i) (first_in terms (i + 1)))
removes terms runs i b long small rise fits = record {
  long_terms = six-length terms i b 0 0 0 0 c i;
  long_runs = undo-runs-length runs (first_in terms i) (first_in terms (i + 1)) rise fits;
  below = λ j h k. six-other terms i b 0 0 0 0 c i j (omega arith) (omega arith) (omega arith) (omega arith) (omega arith) (omega arith);
  bucket = six-bucket terms i b 0 0 0 0 c i long small;
  buckets = λ d h n. six-other terms i b 0 0 0 0 c i (BUCKET + d) (omega arith) (omega arith) (omega arith) (omega arith) (omega arith) (omega arith);
  count = six-count terms i b 0 0 0 0 c i long small;
  runs_below = λ j h. undo-runs-below runs (first_in terms i) (first_in terms (i + 1)) j h (omega arith);
}
  where
    c : ℕ
    c = chain_in terms i

-- ---- the buffers hold the shorter pool
module _ (terms runs : List ℕ) (i : ℕ) (H : Holds terms runs) (last : count_in terms ≡ i + 1) (terms' runs' : List ℕ) (A : Removes terms runs i (key_in terms runs i) terms' runs') where
  abbrev b : ℕ
  b = key_in terms runs i

  b-small : b < BUCKETS
  b-small = key-small (head_in terms i) (value_in terms i) (part_in terms runs i)

  first-same : (j : ℕ) → j ≤ i → first_in terms' j ≡ first_in terms j
  first-same j k = A.below (FIRSTS + j * 4) (omega arith) (omega arith)

  up : (d j : ℕ) → j + d ≤ i → first_in terms j ≤ first_in terms (j + d)
  up zero j h = let e : j + 0 ≡ j = omega arith in rw e (omega arith)
  up (suc d) j h = let e : j + suc d ≡ j + 1 + d = omega arith in rw e (omega (arith, H.rises j (omega arith), up d (j + 1) (omega arith)))

  first-up : (j : ℕ) → j ≤ i → first_in terms j ≤ first_in terms i
  first-up j k = let e : j + (i - j) ≡ i = omega arith in rw e at (up (i - j) j (omega arith))

  part_same : (j : ℕ) → j < i → part_in terms' runs' j ≡ part_in terms runs j
  part_same j k =
      rw (first-same j (omega arith), first-same (j + 1) (omega arith))
      (part-cong runs' runs (first_in terms j) (first_in terms j) (length_in terms j) (λ q h. A.runs_below (first_in terms j + q) (omega (arith, first-up (j + 1) (omega arith)))))

  node-same : (j : ℕ) → j < i → node_in terms' runs' j ≡ node_in terms runs j
  node-same j k = rw (A.below (HEADS + j * 4) (omega arith) (omega arith), A.below (VALUES + j * 4) (omega arith) (omega arith), part_same j k) refl

  key-same : (j : ℕ) → j < i → key_in terms' runs' j ≡ key_in terms runs j
  key-same j k = rw (A.below (HEADS + j * 4) (omega arith) (omega arith), A.below (VALUES + j * 4) (omega arith) (omega arith), part_same j k) refl

  nodes-same : (k : ℕ) → k ≤ i → nodes_in terms' runs' k ≡ nodes_in terms runs k
  unfolding nodes_in
  nodes-same zero q = refl
  nodes-same (suc k) q = ap₂ (λ (p : Pool) (x : Node). p ++ (x ∷ [])) (nodes-same k (omega arith)) (node-same k (omega arith))

  pub pool-less : pool_of terms' runs' ≡ take i (pool_of terms runs)
  unfolding nodes_in
  pool-less =
      let z : count_in terms ≡ suc i = omega arith in
      ap (nodes_in terms' runs') A.count
      ∙ nodes-same i (omega arith)
      ∙ sym (take_at (nodes_in terms runs i) (node_in terms runs i ∷ []) i (nodes-length terms runs i))
      ∙ ap (take i) (sym (ap (nodes_in terms runs) z))

  chain_same : (j : ℕ) → j < i → chain_in terms' j ≡ chain_in terms j
  chain_same j k = A.below (CHAINS + j * 4) (omega arith) (omega arith)

  -- a chain of another key does not end with the last term
  not_last : (d : ℕ) → d < BUCKETS → d ≢ b → bucket_in terms d ≤ i
  not_last d k n = go (dec_le (bucket_in terms d) i)
    where
      go : Dec (bucket_in terms d ≤ i) → bucket_in terms d ≤ i
      go (yes h) = h
      go (no h) =
          let e : bucket_in terms d - 1 ≡ i = omega (arith, H.chained.some d k) in
          absurd (n (sym (H.chained.last d k (omega (arith, H.chained.some d k))) ∙ ap (key_in terms runs) e))

  chains-some : (d : ℕ) → d < BUCKETS → bucket_in terms' d ≤ i
  chains-some d k = go (ℕ_discrete d b)
    where
      go : Dec (d ≡ b) → bucket_in terms' d ≤ i
      go (yes e) = rw e (omega (arith, A.bucket, H.chained.falls i (omega arith)))
      go (no e) = omega (arith, A.buckets d k e, not_last d k e)

  chains-last : (d : ℕ) → d < BUCKETS → 0 < bucket_in terms' d → key_in terms' runs' (bucket_in terms' d - 1) ≡ d
  chains-last d k z = go (ℕ_discrete d b)
    where
      go : Dec (d ≡ b) → key_in terms' runs' (bucket_in terms' d - 1) ≡ d
      go (yes e) =
          let q : bucket_in terms' d ≡ chain_in terms i = ap (bucket_in terms') e ∙ A.bucket in
          let f = H.chained.falls i (omega arith) in
          let y : 0 < chain_in terms i = rw q at z in
          rw q (key-same (chain_in terms i - 1) (omega arith) ∙ H.chained.link i (omega arith) y) ∙ sym e
      go (no e) =
          let y : 0 < bucket_in terms d = rw (A.buckets d k e) at z in
          let m = not_last d k e in
          rw (A.buckets d k e) (key-same (bucket_in terms d - 1) (omega arith) ∙ H.chained.last d k y)

  chains-all : (j : ℕ) → j < i → j < bucket_in terms' (key_in terms' runs' j)
  chains-all j k = rw (key-same j k) (go (key_in terms runs j) refl (key-small (head_in terms j) (value_in terms j) (part_in terms runs j)) (ℕ_discrete (key_in terms runs j) b))
    where
      go : (d : ℕ) → key_in terms runs j ≡ d → d < BUCKETS → Dec (d ≡ b) → j < bucket_in terms' d
      go d q s (yes e) = rw (e, A.bucket) (H.chained.next i j (omega arith) k (q ∙ e))
      go d q s (no e) = rw (A.buckets d s e) (rw q at (H.chained.all j (omega arith)))

  pub chained-less : Chained terms' runs' (count_in terms')
  chained-less = rw A.count (record {
    some = chains-some;
    last = chains-last;
    all = chains-all;
    falls = λ j k. omega (arith, chain_same j k, H.chained.falls j (omega arith));
    link = links;
    next = λ j q k l e. rw (chain_same j k) (H.chained.next j q (omega arith) l (sym (key-same q (omega arith)) ∙ e ∙ key-same j k));
  })
    where
      links : (j : ℕ) → j < i → 0 < chain_in terms' j → key_in terms' runs' (chain_in terms' j - 1) ≡ key_in terms' runs' j
      links j k z =
          let y : 0 < chain_in terms j = rw (chain_same j k) at z in
          let f = H.chained.falls j (omega arith) in
          rw (chain_same j k) (key-same (chain_in terms j - 1) (omega arith) ∙ H.chained.link j (omega arith) y ∙ sym (key-same j k))

  node-old : (j : ℕ) → j < i → node_at (pool_of terms' runs') j ≡ node_at (pool_of terms runs) j
  node-old j k = pool-at terms' runs' j (omega (arith, A.count)) ∙ node-same j k ∙ sym (pool-at terms runs j (omega arith))

  valid-less : PoolValid (pool_of terms' runs')
  valid-less =
      let l : length (pool_of terms' runs') ≡ i = pool-length terms' runs' ∙ A.count in
      let m : length (pool_of terms runs) ≡ i + 1 = pool-length terms runs ∙ last in record {
        nodes = λ j h. rw (node-old j (omega arith)) (H.valid.nodes j (omega arith));
        apart = λ j k h q e. H.valid.apart j k (omega arith) (omega arith) (sym (node-old j (omega arith)) ∙ e ∙ node-old k (omega arith));
      }

  pub holds-less : Holds terms' runs'
  holds-less = record {
    long = omega (arith, A.long_terms, A.count, H.long);
    roomy = rw (A.count, first-same i (omega arith)) (omega (arith, A.long_runs, H.roomy, first-rises terms runs H i (omega arith)));
    few = omega (arith, A.count, H.few);
    begins = first-same 0 (omega arith) ∙ H.begins;
    rises = rw A.count (λ j k. omega (arith, first-same j (omega arith), first-same (j + 1) (omega arith), H.rises j (omega arith)));
    ends = rw (A.count, first-same i (omega arith)) (omega (arith, H.ends, first-rises terms runs H i (omega arith)));
    chained = chained-less;
    light = rw A.count (λ j k. rw (part_same j k) (H.light j (omega arith)));
    valid = valid-less;
  }

-- ---- the last term goes
module _ (terms runs : List ℕ) (i : ℕ) (H : Holds terms runs) (last : count_in terms ≡ i + 1) where
  pub last_fits : (LEAST + (i + 1) * 4 ≤ length terms) × (first_in terms i ≤ first_in terms (i + 1)) × (first_in terms (i + 1) ≤ length runs) × (i < 16384)
  last_fits = (omega (arith, H.long), H.rises i (omega arith), rw last at H.roomy, omega (arith, H.few))

  pub last-removes : Removes terms runs i (key_in terms runs i) (undo_term terms i (key_in terms runs i)) (undo_runs runs (first_in terms i) (first_in terms (i + 1)))
  last-removes = let (a, b, c, d) = last_fits in removes terms runs i (key_in terms runs i) a (key-small (head_in terms i) (value_in terms i) (part_in terms runs i)) b c

-- ---- the loop
pub record Undoing (n : ℕ) (terms₀ runs₀ terms runs : List ℕ) (i : ℕ) : Type 0 where
  pub long_terms : length terms ≡ length terms₀
  pub long_runs : length runs ≡ length runs₀
  pub counted : count_in terms ≡ i
  pub most : n ≤ i
  pub less : i ≤ count_in terms₀
  pub holds : Holds terms runs
  pub pool : pool_of terms runs ≡ take i (pool_of terms₀ runs₀)
  pub same : undo_over (i - n) (terms, runs) ≡ undo_over (count_in terms₀ - n) (terms₀, runs₀)

module _ (n : ℕ) (terms₀ runs₀ : List ℕ) where
  pub undoing-start : (i : ℕ) → i ≡ count_in terms₀ → Holds terms₀ runs₀ → n ≤ count_in terms₀ → Undoing n terms₀ runs₀ terms₀ runs₀ i
  undoing-start i e H h = record {
    long_terms = refl;
    long_runs = refl;
    counted = sym e;
    most = omega arith;
    less = omega arith;
    holds = H;
    pool = sym (take_all i (pool_of terms₀ runs₀) (omega (arith, pool-length terms₀ runs₀)));
    same = rw e refl;
  }

  module _ (terms runs : List ℕ) (i : ℕ) (R : Undoing n terms₀ runs₀ terms runs i) where
    pub undoing-end : i ≤ n → TakenBack n terms₀ runs₀ terms runs
    unfolding undo_over
    undoing-end h =
        let e : i ≡ n = omega (arith, R.most) in
        let z : i - n ≡ 0 = omega arith in
        record { numbers = rw z at R.same; pool = rw e at R.pool; holds = R.holds }

    module _ (k : ℕ) (e : i ≡ k + 1) (h : n ≤ k) (terms' runs' : List ℕ) (p : terms' ≡ undo_term terms k (key_in terms runs k)) (q : runs' ≡ undo_runs runs (first_in terms k) (first_in terms (k + 1))) where
      pub undoing-turn : Undoing n terms₀ runs₀ terms' runs' k
      unfolding undo_over
      undoing-turn =
          let last : count_in terms ≡ k + 1 = R.counted ∙ e in
          let A : Removes terms runs k (key_in terms runs k) terms' runs' = rw (p, q) (last-removes terms runs k R.holds last) in
          let z : i - n ≡ suc (k - n) = omega arith in
          let y : count_in terms - 1 ≡ k = omega arith in record {
            long_terms = A.long_terms ∙ R.long_terms;
            long_runs = A.long_runs ∙ R.long_runs;
            counted = A.count;
            most = h;
            less = omega (arith, R.less);
            holds = holds-less terms runs k R.holds last terms' runs' A;
            pool = pool-less terms runs k R.holds last terms' runs' A ∙ ap (take k) R.pool ∙ take-take k i (pool_of terms₀ runs₀) (omega arith);
            same = ap (undo_over (k - n)) (ap₂ (λ (a b : List ℕ). (a, b)) p q ∙ ap (λ (j : ℕ). undo_at j (terms, runs)) (sym y)) ∙ sym (ap (λ (j : ℕ). undo_over j (terms, runs)) z) ∙ R.same;
          }

-- ---- where its runs stand
module _ (terms runs : List ℕ) (i : ℕ) (H : Holds terms runs) (last : count_in terms ≡ i + 1) (f e : ℕ) (p : f ≡ first_in terms i) (q : e ≡ first_in terms (i + 1)) where
  pub span-rises : f ≤ e
  span-rises = omega (arith, (last_fits terms runs i H last).1)

  pub span-inside : e ≤ length runs
  span-inside = omega (arith, (last_fits terms runs i H last).2)

  pub span_rest : e - f ≤ length (take (length runs - f) (drop f runs))
  span_rest = rw (part_to_end runs f) (omega (arith, length-drop f runs, span-inside))

  pub span_key : key_of (head_in terms i) (value_in terms i) (part (take (length runs - f) (drop f runs)) 0 (e - f)) ≡ key_in terms runs i
  span_key =
      ap (key_of (head_in terms i) (value_in terms i))
      (ap (λ (l : List ℕ). part l 0 (e - f)) (part_to_end runs f) ∙ part-cong (drop f runs) runs 0 f (e - f) (λ j h. let z : 0 + j ≡ j = omega arith in rw z (get_or-drop f runs j 0)) ∙ ap₂ (λ (a n : ℕ). part runs a n) p (rw (p, q) refl))

  pub span-cleared : put_mid f (e - f) runs (replicate (length (take (e - f) (drop f runs))) 0) ≡ undo_runs runs (first_in terms i) (first_in terms (i + 1))
  span-cleared =
      let l : length (take (e - f) (drop f runs)) ≡ e - f = length-take-le (e - f) (drop f runs) (omega (arith, length-drop f runs, span-inside)) in
      rw (l, Post-is f e runs span-rises, p, q) refl
