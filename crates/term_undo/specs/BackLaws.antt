-- Terms entered and taken back: the buffers as they were, where nothing but zeros stood behind the pool.
use Rattle.std.specs.Prelude.{◌≡◌, refl, ◌≢◌, List, [], ◌∷◌, ◌++◌, ℕ, zero, suc, ◌+◌, ◌*◌, ◌-◌, ◌≤◌, ◌<◌, get_or, set, take, drop, replicate}
use Rattle.std.proofs.Common.{sym, ap₂, ◌∙◌, arith, length-set, length-append, ext_get_or, get_or-set_same, get_or-set_other, get_or-append-add, get_or-drop, length-take-le, take_all}
use Rattle.std.proofs.Math.Path.{ap}
use Rattle.std.proofs.Math.Decide.{ℕ_discrete, dec_lt}
use Rattle.std.proofs.Math.ListN.{length, get_or-append}
use Rattle.std.proofs.lemmas.List.{length-map, length-replicate, get_or-replicate}
use Rattle.std.proofs.Math.Seq.{paste, length_paste_head, drop-append_seam}
use Rattle.spec.specs.Bytes.{sum}
use Rattle.spec.specs.Pool.{Pool, Node, run_count}
use Rattle.terms.specs.Buffers.{BUCKETS, BUCKET, COUNT, FIRSTS, HEADS, VALUES, CHAINS, LEAST, pack, part, pool_of, first_in, chain_in, bucket_in, count_in}
use Rattle.terms.specs.Chains.{key_of, key_in, Holds}
use Rattle.terms.specs.PartLaws.{part-take}
use Rattle.terms.specs.PoolLaws.{pool-length}
use Rattle.term_entry.specs.TermEntry.{put_term, enter_term, enter_runs}
use Rattle.term_entry.specs.EnterLaws.{Adds, adds, key-small}
use Rattle.interning.specs.Growing.{Buffers, head_of, packed, laid, laid_over, Grows}
use Rattle.interning.specs.InternLaws.{runs-counted}
use Rattle.term_undo.specs.Undoing.{undo_term, undo_runs, undo_at, undo_last, undo_over, Clean}
use Rattle.term_undo.specs.UndoLaws.{six-other, undo-runs-below, undo-runs-length}

-- ---- numbers of a list of which one was stored
stored : (l : List ℕ) (i x j y : ℕ) → i < length l → (j ≡ i → x ≡ y) → (j ≢ i → get_or l j 0 ≡ y) → get_or (set l i x) j 0 ≡ y
stored l i x j y h f g = go (ℕ_discrete j i)
  where
    go : Dec (j ≡ i) → get_or (set l i x) j 0 ≡ y
    go (yes e) = rw e (get_or-set_same l i x 0 h) ∙ f e
    go (no e) = get_or-set_other l i j x 0 e ∙ g e

-- ---- runs cleared
module _ (r : List ℕ) (a e : ℕ) (h : a ≤ e) (k : e ≤ length r) where
  undo-at : (q : ℕ) → get_or (undo_runs r a e) (a + q) 0 ≡ get_or (replicate (e - a) 0 ++ drop e r) q 0
  undo-at q = let z : a + q ≡ length (take a r) + q = omega (arith, length-take-le a r (omega arith)) in rw z (get_or-append-add (take a r) (replicate (e - a) 0 ++ drop e r) q 0)

  undo-mid : (q : ℕ) → q < e - a → get_or (undo_runs r a e) (a + q) 0 ≡ 0
  undo-mid q l = undo-at q ∙ get_or-append (replicate (e - a) 0) (drop e r) 0 q (omega (arith, length-replicate {A = ℕ} (e - a) 0)) ∙ get_or-replicate (e - a) q 0 0 l

  undo-past : (q : ℕ) → get_or (undo_runs r a e) (e + q) 0 ≡ get_or r (e + q) 0
  undo-past q =
      let z : e + q ≡ a + (e - a + q) = omega arith in
      let y : e - a + q ≡ length {A = ℕ} (replicate (e - a) 0) + q = omega (arith, length-replicate {A = ℕ} (e - a) 0) in
      ap (λ (j : ℕ). get_or (undo_runs r a e) j 0) z ∙ undo-at (e - a + q) ∙ rw y (get_or-append-add (replicate (e - a) 0) (drop e r) q 0) ∙ get_or-drop e r q 0

paste-past : (r l : List ℕ) (a n q : ℕ) → a ≤ length r → n ≤ length l → get_or (paste r a l n) (a + n + q) 0 ≡ get_or r (a + n + q) 0
paste-past r l a n q h k =
    let z : a + n + q ≡ length (take a r ++ take n l) + q = omega (arith, length_paste_head r a l n h k) in
    ap (λ (j : ℕ). get_or (paste r a l n) j 0) z ∙ get_or-append-add (take a r ++ take n l) (drop (a + n) r) q 0 ∙ get_or-drop (a + n) r q 0

-- ---- one term entered and taken back
module _ (terms runs : List ℕ) (n : Node) (room : LEAST + (count_in terms + 1) * 4 ≤ length terms) (fits : first_in terms (count_in terms) + length n.runs ≤ length runs) where
  abbrev N : ℕ
  N = count_in terms

  abbrev a : ℕ
  a = first_in terms (count_in terms)

  abbrev k : ℕ
  k = length n.runs

  abbrev b : ℕ
  b = key_of (head_of n) n.value (packed n)

  abbrev terms' : List ℕ
  terms' = (laid (terms, runs) n).0

  abbrev runs' : List ℕ
  runs' = (laid (terms, runs) n).1

  many : length (packed n) ≡ k
  many = length-map n.runs pack

  small : b < BUCKETS
  small = key-small (head_of n) n.value (packed n)

  added : Adds terms runs (packed n) (head_of n) n.value k b terms' runs'
  added = adds terms runs (packed n) (head_of n) n.value k b room fits small (omega (arith, many))

  first-same : first_in terms' N ≡ a
  first-same = added.below (FIRSTS + N * 4) (omega arith) (omega arith)

  key_back : key_in terms' runs' N ≡ b
  key_back =
      let z : a + k - a ≡ k = omega arith in
      let l : part runs' a k ≡ packed n = added.entered ∙ part-take (packed n) k (omega (arith, many)) ∙ take_all k (packed n) (omega (arith, many)) in
      rw (added.head, added.value, added.end, first-same, z, l) refl

  -- a number that is none of the six
  enter-other : (j : ℕ) → j ≢ COUNT → j ≢ BUCKET + b → j ≢ CHAINS + N * 4 → j ≢ FIRSTS + (N + 1) * 4 → j ≢ VALUES + N * 4 → j ≢ HEADS + N * 4 → get_or terms' j 0 ≡ get_or terms j 0
  unfolding enter_term
  enter-other = six-other terms N b (head_of n) n.value (a + k) (bucket_in (put_term terms N (head_of n) n.value (a + k)) b) (N + 1) (N + 1)

  runs_past : (q : ℕ) → get_or runs' (a + k + q) 0 ≡ get_or runs (a + k + q) 0
  unfolding enter_runs
  runs_past q = paste-past runs (packed n) a k q (omega arith) (omega (arith, many))

  -- nothing but zeros stays so behind the longer pool
  pub laid-clean : Clean terms runs → Clean terms' runs'
  laid-clean Z = record {
    past_terms = λ i h. let c = added.count in enter-other i (omega arith) (omega (arith, small)) (omega arith) (omega arith) (omega arith) (omega arith) ∙ Z.past_terms i (omega arith);
    past_runs = past;
  }
    where
      past : (i : ℕ) → first_in terms' (count_in terms') ≤ i → get_or runs' i 0 ≡ 0
      past i h =
          let c : first_in terms' (count_in terms') ≡ a + k = ap (first_in terms') added.count ∙ added.end in
          let z : a + k + (i - (a + k)) ≡ i = omega arith in
          rw z at (runs_past (i - (a + k)) ∙ Z.past_runs (a + k + (i - (a + k))) (omega arith))

  terms-back : Clean terms runs → undo_term terms' N b ≡ terms
  terms-back Z = ext_get_or 0 (undo_term terms' N b) terms (simp length-set added.long_terms) (λ j h. at j)
    where
      long : LEAST + (N + 1) * 4 ≤ length terms'
      long = omega (arith, added.long_terms)

      zero-at : (j : ℕ) → LEAST + N * 4 ≤ j → 0 ≡ get_or terms j 0
      zero-at j h = sym (Z.past_terms j h)

      s₁ : List ℕ
      s₁ = set terms' (HEADS + N * 4) 0

      s₂ : List ℕ
      s₂ = set s₁ (VALUES + N * 4) 0

      s₃ : List ℕ
      s₃ = set s₂ (FIRSTS + (N + 1) * 4) 0

      s₄ : List ℕ
      s₄ = set s₃ (CHAINS + N * 4) 0

      s₅ : List ℕ
      s₅ = set s₄ (BUCKET + b) (chain_in terms' N)

      at : (j : ℕ) → get_or (undo_term terms' N b) j 0 ≡ get_or terms j 0
      at j =
          stored s₅ COUNT N j (get_or terms j 0) (simp length-set (omega (arith, long, small))) (λ e. rw e refl) (λ p.
          stored s₄ (BUCKET + b) (chain_in terms' N) j (get_or terms j 0) (simp length-set (omega (arith, long, small))) (λ e. added.chain ∙ sym (ap (λ (z : ℕ). get_or terms z 0) e)) (λ q.
          stored s₃ (CHAINS + N * 4) 0 j (get_or terms j 0) (simp length-set (omega (arith, long, small))) (λ e. zero-at j (omega arith)) (λ r.
          stored s₂ (FIRSTS + (N + 1) * 4) 0 j (get_or terms j 0) (simp length-set (omega (arith, long, small))) (λ e. zero-at j (omega arith)) (λ s.
          stored s₁ (VALUES + N * 4) 0 j (get_or terms j 0) (simp length-set (omega (arith, long, small))) (λ e. zero-at j (omega arith)) (λ t.
          stored terms' (HEADS + N * 4) 0 j (get_or terms j 0) (omega (arith, long)) (λ e. zero-at j (omega arith)) (λ u. enter-other j p q r s t u))))))

  runs-back : Clean terms runs → undo_runs runs' a (a + k) ≡ runs
  runs-back Z = ext_get_or 0 (undo_runs runs' a (a + k)) runs (undo-runs-length runs' a (a + k) (omega arith) inside ∙ added.long_runs) (λ j h. go j (dec_lt j a) (dec_lt j (a + k)))
    where
      inside : a + k ≤ length runs'
      inside = omega (arith, added.long_runs)

      go : (j : ℕ) → Dec (j < a) → Dec (j < a + k) → get_or (undo_runs runs' a (a + k)) j 0 ≡ get_or runs j 0
      go j (yes h) q = undo-runs-below runs' a (a + k) j h (omega (arith, inside)) ∙ added.runs_below j h
      go j (no h) (yes l) =
          let z : a + (j - a) ≡ j = omega arith in
          rw z at (undo-mid runs' a (a + k) (omega arith) inside (j - a) (omega arith)) ∙ sym (Z.past_runs j (omega arith))
      go j (no h) (no l) =
          let z : a + k + (j - (a + k)) ≡ j = omega arith in
          rw z at (undo-past runs' a (a + k) (omega arith) inside (j - (a + k)) ∙ runs_past (j - (a + k)))

  pub laid-back : Clean terms runs → undo_last (laid (terms, runs) n) ≡ (terms, runs)
  laid-back Z =
      let c : count_in terms' - 1 ≡ N = omega (arith, added.count) in
      ap (λ (i : ℕ). undo_at i (terms', runs')) c
      ∙ ap₂ (λ (x y : List ℕ). (x, y)) (ap (undo_term terms' N) key_back ∙ terms-back Z) (ap₂ (undo_runs runs') first-same added.end ∙ runs-back Z)

-- ---- terms entered one after the other
-- there is room for the nodes l
pub record RoomFor (terms runs : List ℕ) (l : List Node) : Type 0 where
  pub long : LEAST + (count_in terms + length l) * 4 ≤ length terms
  pub roomy : first_in terms (count_in terms) + run_count l ≤ length runs

over-more : (k : ℕ) (b : Buffers) → undo_over (suc k) b ≡ undo_last (undo_over k b)
unfolding undo_over
over-more zero b = refl
over-more (suc k) b = over-more k (undo_last b)

module _ (terms runs : List ℕ) (n : Node) (l : List Node) (R : RoomFor terms runs (n ∷ l)) where
  pub one-fits : (LEAST + (count_in terms + 1) * 4 ≤ length terms) × (first_in terms (count_in terms) + length n.runs ≤ length runs)
  unfolding run_count sum
  one-fits = (omega (arith, R.long), omega (arith, R.roomy))

  pub rest-fits : RoomFor (laid (terms, runs) n).0 (laid (terms, runs) n).1 l
  unfolding run_count sum
  rest-fits =
      let A = added terms runs n one-fits.0 one-fits.1 in
      let c = A.count in
      let f : first_in (laid (terms, runs) n).0 (count_in (laid (terms, runs) n).0) ≡ first_in terms (count_in terms) + length n.runs = ap (first_in (laid (terms, runs) n).0) c ∙ A.end in
      record { long = omega (arith, R.long, A.long_terms); roomy = omega (arith, R.roomy, A.long_runs) }

pub over-clean : (l : List Node) (terms runs : List ℕ) → RoomFor terms runs l → Clean terms runs → Clean (laid_over (terms, runs) l).0 (laid_over (terms, runs) l).1
unfolding laid_over
over-clean [] terms runs R Z = Z
over-clean (n ∷ l) terms runs R Z = let f = one-fits terms runs n l R in over-clean l _ _ (rest-fits terms runs n l R) (laid-clean terms runs n f.0 f.1 Z)

pub over-back : (l : List Node) (terms runs : List ℕ) → RoomFor terms runs l → Clean terms runs → undo_over (length l) (laid_over (terms, runs) l) ≡ (terms, runs)
unfolding laid_over undo_over
over-back [] terms runs R Z = refl
over-back (n ∷ l) terms runs R Z =
    let f = one-fits terms runs n l R in
    over-more (length l) (laid_over (laid (terms, runs) n) l) ∙ ap undo_last (over-back l _ _ (rest-fits terms runs n l R) (laid-clean terms runs n f.0 f.1 Z)) ∙ laid-back terms runs n f.0 f.1 Z

-- ---- a pool that grew
run_count-append : (p q : Pool) → run_count (p ++ q) ≡ run_count p + run_count q
unfolding run_count sum
run_count-append [] q = omega arith
run_count-append (n ∷ p) q = omega (arith, run_count-append p q)

module _ {terms runs terms' runs' : List ℕ} {p : Pool} (H : Holds terms runs) (G : Grows terms runs terms' runs' p) (lt : length terms' ≡ length terms) (lr : length runs' ≡ length runs) where
  abbrev more : List Node
  more = drop (length (pool_of terms runs)) p

  counted : count_in terms' ≡ count_in terms + length more
  counted =
      let e : p ≡ pool_of terms runs ++ G.grown.later = G.grown.is in
      let d : more ≡ G.grown.later = ap (drop (length (pool_of terms runs))) e ∙ drop-append_seam (pool_of terms runs) G.grown.later in
      omega (arith, pool-length terms runs, pool-length terms' runs', ap length G.pool, ap length e, length-append (pool_of terms runs) G.grown.later, ap length d)

  room : RoomFor terms runs more
  room =
      let e : p ≡ pool_of terms runs ++ G.grown.later = G.grown.is in
      let d : more ≡ G.grown.later = ap (drop (length (pool_of terms runs))) e ∙ drop-append_seam (pool_of terms runs) G.grown.later in
      let f = runs-counted terms runs H (count_in terms) (omega arith) in
      let g = runs-counted terms' runs' G.holds (count_in terms') (omega arith) in
      record { long = omega (arith, counted, G.holds.long); roomy = omega (arith, G.holds.roomy, f, g, ap run_count G.pool, ap run_count e, run_count-append (pool_of terms runs) G.grown.later, ap run_count d) }

  -- entered, then taken back: the same buffers
  pub grows_back : Clean terms runs → undo_over (count_in terms' - count_in terms) (terms', runs') ≡ (terms, runs)
  grows_back Z =
      let z : count_in terms' - count_in terms ≡ length more = omega (arith, counted) in
      ap₂ undo_over z G.numbers ∙ over-back more terms runs room Z

  pub grows_clean : Clean terms runs → Clean terms' runs'
  grows_clean Z = rw (ap (λ (b : Buffers). b.0) G.numbers, ap (λ (b : Buffers). b.1) G.numbers) (over-clean more terms runs room Z)
