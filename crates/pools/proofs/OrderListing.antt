-- The lines of a listing depend on the root's tree alone: two valid pools in which it is the same give the same bytes.
use Rattle.std.specs.Prelude.{◌≡◌, Bool, eqb, length}
use Rattle.std.proofs.Math.Path.{refl, sym, ap, ap₂}
use Rattle.std.proofs.Common.{◌∙◌, not-suc-le-zero, arith}
use Rattle.std.proofs.Math.Bool.{true, false}
use mathlib.Core.List.{List, [], ◌∷◌, ◌++◌, map}
use Prim.Native.Nat.{ℕ, zero, suc, ◌<◌}
use Rattle.spec.specs.Bytes.{Two, any, each, place}
use Rattle.spec.specs.Pool.{Pool, Node, node_at, join_runs}
use Rattle.spec.specs.Run.{Outcome}
use Rattle.spec.specs.Listing.{visit_runs, visit_term, subterms, reported, first_line, run_field, head_fields, term_line, listing_of}
use Rattle.spec.specs.Meaning.{In, here, there, tree_at}
use Rattle.laws.specs.Lists.{map-in}
use Rattle.laws.specs.BagCount.{written, in-written, join_written}
use Rattle.pools.specs.Pool.{RunsBelow, NodeValid, PoolValid, join-below, join-joined}
use Rattle.pools.specs.PoolIntern.{Extends}
use Rattle.pools.specs.OrderTerms.{head_of, op_of, value_of, expanded_children}
use Rattle.pools.specs.Order.{Parts}
use Rattle.pools.proofs.Order.{tree-parts}
use Rattle.pools.specs.OrderRuns.{written-inj}
use Rattle.pools.specs.OrderPools.{Same, same-extends}
use Rattle.pools.proofs.OrderPools.{none, next, Alike, eqb_same, join-alike}
use Rattle.pools.specs.OrderListing.{over_pool}

-- each number once
abbrev single : List ℕ → List Two
single l = map (λ a. (a, 1)) l

single-written : (l : List ℕ) → written (single l) ≡ l
unfolding written
single-written [] = refl
single-written (a ∷ l) = ap (λ (z : List ℕ). a ∷ z) (single-written l)

single-below : (i : ℕ) (l : List ℕ) → ((a : ℕ) → In a l → a < i) → RunsBelow i (single l)
single-below i l h = record {
  earlier = λ r j. let (a, k, e) = map-in (λ a. (a, 1)) l r j in rw (← e) (h a k);
  counted = λ r j. let (a, k, e) = map-in (λ a. (a, 1)) l r j in rw (← e) (omega arith);
}

-- an entry's runs are its children, joined
runs-joined : (i : ℕ) (n : Node) → NodeValid i n → n.runs ≡ join_runs (single (written n.runs))
runs-joined i n v =
    let w = written n.runs in
    let b = single-below i w (λ a j. let (r, k, e, h) = in-written a n.runs j in rw e (v.below.earlier r k)) in
    written-inj n.runs (join_runs (single w)) v.joined (join-joined (single w)) v.below.counted (join-below i (single w) b).counted
    (sym (join_written (single w) ∙ single-written w))

module _ (p q : Pool) (v : PoolValid p) (w : PoolValid q) where
  -- lists of numbers that mean the same trees
  data SameAll : List ℕ → List ℕ → Type 0 where
    nothing : SameAll [] []
    also : {a b : ℕ} {l m : List ℕ} → Same p q a b → SameAll l m → SameAll (a ∷ l) (b ∷ m)

  same-of-trees : (l m : List ℕ) → ((a : ℕ) → In a l → a < length p) → ((a : ℕ) → In a m → a < length q) → map (tree_at p) l ≡ map (tree_at q) m → SameAll l m
  same-of-trees [] [] h k e = nothing
  same-of-trees [] (b ∷ m) h k e = absurd (let z : ◌≡◌ {A = ℕ} 0 1 = cc in omega arith)
  same-of-trees (a ∷ l) [] h k e = absurd (let z : ◌≡◌ {A = ℕ} 0 1 = cc in omega arith)
  same-of-trees (a ∷ l) (b ∷ m) h k e = let (x, y) = parts e in also (record { left = h a here; right = k b here; tree = x }) (same-of-trees l m (λ c i. h c (there i)) (λ c i. k c (there i)) y)
    where
      parts : tree_at p a ∷ map (tree_at p) l ≡ tree_at q b ∷ map (tree_at q) m → (tree_at p a ≡ tree_at q b) × (map (tree_at p) l ≡ map (tree_at q) m)
      parts e = (cc, cc)

  single-alike : {l m : List ℕ} → SameAll l m → Alike p q v w (single l) (single m)
  single-alike nothing = none
  single-alike (also {a = a} {b = b} s i) = next {r = (a, 1)} {s = (b, 1)} s refl (single-alike i)

  -- ---- nodes of the same tree
  module _ (a b : ℕ) (S : Same p q a b) where
    A : Parts p (node_at p a) (tree_at p a)
    A = tree-parts p v a S.left

    B : Parts q (node_at q b) (tree_at q b)
    B = tree-parts q w b S.right

    fields : ℕ → ℕ → ℕ → List (List ℕ)
    fields h o n = head_fields (record { head = h; op = o; value = n; runs = [] })

    heads-same : head_fields (node_at p a) ≡ head_fields (node_at q b)
    unfolding head_fields fields
    heads-same =
        let h = sym A.head ∙ ap head_of S.tree ∙ B.head in
        let o = sym A.op ∙ ap op_of S.tree ∙ B.op in
        let n = sym A.value ∙ ap value_of S.tree ∙ B.value in
        λ i. fields (h i) (o i) (n i)

    -- the children mean the same trees
    kids-same : SameAll (written (node_at p a).runs) (written (node_at q b).runs)
    kids-same =
        same-of-trees (written (node_at p a).runs) (written (node_at q b).runs)
        (λ c i. let (r, k, e, h) = in-written c (node_at p a).runs i in let z = (v.nodes a S.left).below.earlier r k in let y = S.left in omega arith)
        (λ c i. let (r, k, e, h) = in-written c (node_at q b).runs i in let z = (w.nodes b S.right).below.earlier r k in let y = S.right in omega arith)
        (sym A.children ∙ ap expanded_children S.tree ∙ B.children)

    runs-alike : Alike p q v w (node_at p a).runs (node_at q b).runs
    runs-alike = rw (runs-joined a (node_at p a) (v.nodes a S.left), runs-joined b (node_at q b) (w.nodes b S.right)) (join-alike p q v w (single-alike kids-same))

  -- ---- the walk
  any_same : (a b : ℕ) (l m : List ℕ) → Same p q a b → SameAll l m → any (eqb a) l ≡ any (eqb b) m
  unfolding any
  any_same a b l m S nothing = refl
  any_same a b l m S (also {a = c} {b = d} {l = k} {m = n} T i) =
      ap₂ (λ (z u : Bool). elim z [ true ↦ true | false ↦ u ]) (eqb_same p q v w a c b d S T) (any_same a b k n S i)

  place_same : (a b : ℕ) (l m : List ℕ) → Same p q a b → SameAll l m → place (eqb a) l ≡ place (eqb b) m
  unfolding place
  place_same a b l m S nothing = refl
  place_same a b l m S (also {a = c} {b = d} {l = k} {m = n} T i) =
      ap₂ (λ (z : Bool) (u : ℕ). elim z [ true ↦ 0 | false ↦ suc u ]) (eqb_same p q v w a c b d S T) (place_same a b k n S i)

  same-append : {l m k n : List ℕ} → SameAll l m → SameAll k n → SameAll (l ++ k) (m ++ n)
  same-append nothing j = j
  same-append (also S i) j = also S (same-append i j)

  runs-visit : (visit visit' : ℕ → List ℕ → List ℕ) (i j : ℕ) → ((c d : ℕ) (l m : List ℕ) → c < i → d < j → Same p q c d → SameAll l m → SameAll (visit c l) (visit' d m))
      → (x y : List Two) (l m : List ℕ) → Alike p q v w x y → ((r : Two) → In r x → r.0 < i) → ((r : Two) → In r y → r.0 < j) → SameAll l m → SameAll (visit_runs visit x l) (visit_runs visit' y m)
  unfolding visit_runs
  runs-visit visit visit' i j h x y l m none hx hy k = k
  runs-visit visit visit' i j h x y l m (next {r = r} {s = s} {l = x'} {m = y'} S e A) hx hy k =
      runs-visit visit visit' i j h x' y' (visit r.0 l) (visit' s.0 m) A (λ z u. hx z (there u)) (λ z u. hy z (there u)) (h r.0 s.0 l m (hx r here) (hy s here) S k)

  visit-same : (f g a b : ℕ) (l m : List ℕ) → a < f → b < g → Same p q a b → SameAll l m → SameAll (visit_term f p a l) (visit_term g q b m)
  unfolding visit_term
  visit-same zero g a b l m h k S i = absurd (not-suc-le-zero h)
  visit-same (suc f) zero a b l m h k S i = absurd (not-suc-le-zero k)
  visit-same (suc f) (suc g) a b l m h k S i = go (any (eqb a) l) (any (eqb b) m) (any_same a b l m S i)
      (runs-visit (visit_term f p) (visit_term g q) a b (λ c d x y hc hd T j. visit-same f g c d x y (omega arith) (omega arith) T j) (node_at p a).runs (node_at q b).runs l m
      (runs-alike a b S) (v.nodes a S.left).below.earlier (w.nodes b S.right).below.earlier i)
    where
      go : (x y : Bool) → x ≡ y → SameAll (visit_runs (visit_term f p) (node_at p a).runs l) (visit_runs (visit_term g q) (node_at q b).runs m)
          → SameAll (elim x [ true ↦ l | false ↦ visit_runs (visit_term f p) (node_at p a).runs l ++ (a ∷ []) ]) (elim y [ true ↦ m | false ↦ visit_runs (visit_term g q) (node_at q b).runs m ++ (b ∷ []) ])
      go true y e j = rw (← e) i
      go false y e j = rw (← e) (same-append j (also S nothing))

  -- ---- the lines
  fields-same : (l m : List ℕ) → SameAll l m → (x y : List Two) → Alike p q v w x y → map (run_field l) x ≡ map (run_field m) y
  unfolding run_field
  fields-same l m i x y none = refl
  fields-same l m i x y (next {r = r} {s = s} {l = x'} {m = y'} S e A) = rw (place_same r.0 s.0 l m S i, e, fields-same l m i x' y' A) refl

  line_same : (l m : List ℕ) → SameAll l m → (a b : ℕ) → Same p q a b → term_line p l a ≡ term_line q m b
  unfolding term_line
  line_same l m i a b S = rw (place_same a b l m S i, heads-same a b S, fields-same l m i (node_at p a).runs (node_at q b).runs (runs-alike a b S)) refl

  lines_same : (l m : List ℕ) → SameAll l m → (x y : List ℕ) → SameAll x y → each (term_line p l) x ≡ each (term_line q m) y
  unfolding each
  lines_same l m i x y nothing = refl
  lines_same l m i x y (also {a = a} {b = b} {l = x'} {m = y'} S j) = ap₂ (λ (c d : List ℕ). c ++ d) (line_same l m i a b S) (lines_same l m i x' y' j)

-- Two outcomes with the same first line and the same tree at the root have the same listing.
pub listing-anywhere : (k : ℕ) (o u : Outcome) → PoolValid o.pool → PoolValid u.pool → first_line k o ≡ first_line k u → Same o.pool u.pool o.root u.root → listing_of k o ≡ listing_of k u
unfolding listing_of
listing-anywhere k o u v w e S =
    let i = visit-same o.pool u.pool v w (suc o.root) (suc u.root) o.root u.root [] [] (omega arith) (omega arith) S nothing in
    ap₂ (λ (c d : List ℕ). c ++ d) e (lines_same o.pool u.pool v w (subterms o.pool o.root) (subterms u.pool u.root) i (subterms o.pool o.root) (subterms u.pool u.root) i)

-- A larger pool gives the same listing.
pub listing-larger : (k : ℕ) (o : Outcome) (q : Pool) → PoolValid o.pool → PoolValid q → Extends o.pool q → o.root < length o.pool
    → listing_of k o ≡ listing_of k (over_pool o q)
unfolding first_line reported
listing-larger k o q v w g h = listing-anywhere k o (over_pool o q) v w refl (same-extends g o.root h)
