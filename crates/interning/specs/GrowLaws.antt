-- Growing buffers: interning grows them, growing composes.
use Rattle.std.specs.Prelude.{◌≡◌, refl, Bool, true, false, List, [], ◌∷◌, ◌++◌, map, ℕ, ◌+◌, ◌*◌, ◌/◌, ◌%◌, ◌≤◌, ltb, leb, length, take, drop, Option}
use Rattle.std.proofs.Common.{sym, ap, ap₂, ◌∙◌, append-nil, append_assoc, arith, lt-ltb, le-ltb, length-append, take_all}
use Rattle.std.proofs.lemmas.List.{length-map}
use Rattle.std.proofs.Math.Seq.{paste, drop-append_seam, drop-length}
use Rattle.spec.specs.Bytes.{Limits, pick, both, place, Res, ok, refused}
use Rattle.spec.specs.Pool.{Pool, Node, same_node, run_count, Interned, interned, intern}
use Rattle.pools.specs.PoolIntern.{Extends, extends-refl}
use Rattle.terms.specs.Buffers.{part, pack, unpack, node_of, pool_of}
use Rattle.terms.specs.Chains.{key_of, Holds}
use Rattle.interning.specs.Interning.{pool_after, grew, Interning}
use Rattle.term_entry.specs.TermEntry.{enter_term, enter_runs}
use Rattle.terms.specs.PartLaws.{part_length, part-take}
use Rattle.interning.specs.Growing.{Buffers, head_of, laid, laid_over, Grows}

-- ---- a node's numbers from the node
head-of : (h v : ℕ) (l : List ℕ) → head_of (node_of h v l) ≡ h
head-of h v l = omega arith

pack-unpack : (l : List ℕ) → map pack (map unpack l) ≡ l
pack-unpack [] = refl
pack-unpack (x ∷ l) = let e : x / 16384 * 16384 + x % 16384 ≡ x = omega arith in ap₂ (λ (y : ℕ) (m : List ℕ). y ∷ m) e (pack-unpack l)

runs-many : (l : List ℕ) (n : ℕ) → length (map unpack (part l 0 n)) ≡ n
runs-many l n = length-map (part l 0 n) unpack ∙ part_length l 0 n

-- the first n numbers of a list are pasted
paste-front : (runs list : List ℕ) (a n : ℕ) → n ≤ length list → paste runs a list n ≡ paste runs a (part list 0 n) n
paste-front runs list a n h =
    let e : take n (part list 0 n) ≡ take n list = take_all n (part list 0 n) (omega (arith, part_length list 0 n)) ∙ part-take list n h in
    rw e refl

pub laid-node : (terms runs list : List ℕ) (n h v : ℕ) → n ≤ length list
    → laid (terms, runs) (node_of h v (part list 0 n)) ≡ (enter_term terms h v n (key_of h v (part list 0 n)), enter_runs terms runs list n)
unfolding enter_runs
laid-node terms runs list n h v k =
    let a = head-of h v (part list 0 n) in
    let b = pack-unpack (part list 0 n) in
    let c = runs-many list n in
    rw (a, b, c, paste-front runs list _ n k) refl

-- ---- nodes one after the other
pub laid-over-append : (b : Buffers) (l m : List Node) → laid_over b (l ++ m) ≡ laid_over (laid_over b l) m
unfolding laid_over
laid-over-append b [] m = refl
laid-over-append b (n ∷ l) m = laid-over-append (laid b n) l m

laid-over-none : (b : Buffers) → laid_over b [] ≡ b
unfolding laid_over
laid-over-none b = refl

laid-over-one : (b : Buffers) (n : Node) → laid_over b (n ∷ []) ≡ laid b n
unfolding laid_over
laid-over-one b n = refl

-- what interning adds
intern-adds : (lim : Limits) (p : Pool) (n : Node) → pool_after p (intern lim p n) ≡ p ++ pick (grew p (intern lim p n)) (n ∷ []) []
unfolding intern
intern-adds lim p n = go (ltb (place (same_node n) p) (length p)) (both (ltb (length p) lim.terms) (leb (run_count p + length n.runs) lim.runs))
  where
    R : Bool → Bool → Res Interned
    R a b = pick a (ok (interned p (place (same_node n) p))) (pick b (ok (interned (p ++ (n ∷ [])) (length p))) (refused 13))

    stays : p ≡ p ++ pick (ltb (length p) (length p)) (n ∷ []) []
    stays = rw (le-ltb (length p) (length p) (omega arith)) (sym (append-nil p))

    go : (a b : Bool) → pool_after p (R a b) ≡ p ++ pick (grew p (R a b)) (n ∷ []) []
    go true b = stays
    go false true = rw (lt-ltb (length p) (length (p ++ (n ∷ []))) (omega (arith, length-append p (n ∷ [])))) refl
    go false false = stays

-- ---- the laws
-- buffers that stay as they are
pub grows_none : (terms runs : List ℕ) → Holds terms runs → Grows terms runs terms runs (pool_of terms runs)
grows_none terms runs H = record {
  pool = refl;
  holds = H;
  grown = extends-refl (pool_of terms runs);
  numbers = sym (laid-over-none (terms, runs)) ∙ ap (laid_over (terms, runs)) (sym (drop-length (pool_of terms runs)));
}

-- one growth after the other
module _ {terms runs terms₁ runs₁ terms₂ runs₂ : List ℕ} {p₁ p₂ : Pool} where
  pub grows_then : Grows terms runs terms₁ runs₁ p₁ → Grows terms₁ runs₁ terms₂ runs₂ p₂ → Grows terms runs terms₂ runs₂ p₂
  grows_then G H =
      let g : Extends p₁ p₂ = rw G.pool at H.grown in
      let p = pool_of terms runs in
      let t : p₂ ≡ p ++ (G.grown.later ++ g.later) = g.is ∙ ap (λ (z : Pool). z ++ g.later) G.grown.is ∙ append_assoc p G.grown.later g.later in
      let a : drop (length p) p₁ ≡ G.grown.later = rw G.grown.is (drop-append_seam p G.grown.later) in
      let b : drop (length (pool_of terms₁ runs₁)) p₂ ≡ g.later = rw (G.pool, g.is) (drop-append_seam p₁ g.later) in
      let c : drop (length p) p₂ ≡ G.grown.later ++ g.later = rw t (drop-append_seam p (G.grown.later ++ g.later)) in record {
        pool = H.pool;
        holds = H.holds;
        grown = record { later = G.grown.later ++ g.later; is = t };
        numbers =
            H.numbers
            ∙ ap₂ laid_over (G.numbers ∙ ap (laid_over (terms, runs)) a) b
            ∙ sym (laid-over-append (terms, runs) G.grown.later g.later)
            ∙ ap (laid_over (terms, runs)) (sym c);
      }

-- interning, found, entered or refused
pub grows-intern : (lim : Limits) → {terms runs list : List ℕ} {n h v : ℕ} {terms' runs' : List ℕ} {r : Option ℕ} → n ≤ length list → Interning lim terms runs list n h v terms' runs' r
    → Grows terms runs terms' runs' (pool_after (pool_of terms runs) (intern lim (pool_of terms runs) (node_of h v (part list 0 n))))
grows-intern lim {terms} {runs} {list} {n} {h} {v} k I = record {
  pool = I.pool;
  holds = I.holds;
  grown = record { later = _; is = adds };
  numbers = ap₂ (λ (x y : List ℕ). (x, y)) I.terms_are I.runs_are ∙ by (grew p (intern lim p node)) ∙ ap (laid_over (terms, runs)) (sym (ap (drop (length p)) adds ∙ drop-append_seam p _));
}
  where
    p : Pool
    p = pool_of terms runs

    node : Node
    node = node_of h v (part list 0 n)

    adds : pool_after p (intern lim p node) ≡ p ++ pick (grew p (intern lim p node)) (node ∷ []) []
    adds = intern-adds lim p node

    by : (b : Bool) → ◌≡◌ {A = Buffers} (pick b (enter_term terms h v n (key_of h v (part list 0 n))) terms, pick b (enter_runs terms runs list n) runs) (laid_over (terms, runs) (pick b (node ∷ []) []))
    by true = sym (laid-over-one (terms, runs) node ∙ laid-node terms runs list n h v k)
    by false = sym (laid-over-none (terms, runs))
