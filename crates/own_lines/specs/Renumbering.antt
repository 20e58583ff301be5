-- The lines of our own listing: the root's subterms, numbered by their places in the walk. They are a pool again, of the same trees.
use Rattle.std.specs.Prelude.{◌≡◌, ◌⊎◌, Bool, true, false, eqb, get_or}
use Rattle.std.proofs.Math.Path.{refl, sym, ap}
use Rattle.std.proofs.Common.{ap₂, ◌∙◌, not-suc-le-zero, eq-or-lt_of_le, arith, eqb-true, eq-eqb, length-append}
use Rattle.std.proofs.Math.Logic.{inl, inr}
use mathlib.Core.List.{List, [], ◌∷◌, ◌++◌, map}
use Prim.Native.Nat.{ℕ, zero, suc, ◌+◌, ◌-◌, ◌≤◌, ◌<◌}
use Rattle.std.proofs.lemmas.Bool.{eqb-false}
use Rattle.std.proofs.Math.ListN.{length, get_or-append}
use Rattle.spec.specs.Bytes.{any, place, sum, Two, Decides}
use Rattle.spec.specs.Pool.{Pool, Node, node_at, run_count}
use Rattle.spec.specs.Listing.{visit_runs, visit_term, subterms}
use Rattle.spec.specs.Meaning.{In, here, there, Term, node, variants, Runs, run, runs_of, trees_after, tree_of, tree_at}
use Rattle.laws.specs.Tests.{clash}
use Rattle.laws.specs.Lists.{in-nil, in-cons, in-append, in_left, in_right, map-in, map-ext, map-map, map_snoc, any-in, any_none, length-map, get_in, Distinct, none, distinct-last, pigeon, place_at}
use Rattle.laws.specs.Bag.{map-append}
use Rattle.pools.specs.Pool.{Joined, Formed, operation, literal, marked, NodeValid, PoolValid, empty-valid, get_d-last, tree-grows, tree-last, tree-operation, tree-literal, tree-marked}
use Rattle.pools.specs.Pool as P
use Rattle.pools.proofs.PoolIntern.{added}
use Rattle.pools.specs.PoolTrees.{tree_is, node-ext}
use Rattle.pools.proofs.PoolTrees.{trees-apart}
use Rattle.formula_laws.specs.Weights.{weighed}
use Rattle.own_lines.specs.Loading.{absent}

-- ---- the walk lists a term after its children, each once
pub data Built (p : Pool) : List ℕ → Type 0 where
  empty : Built p []
  last : {l m : List ℕ} {a : ℕ} → Built p l → a < length p → (In a l → ⊥) → ((r : Two) → In r (node_at p a).runs → In r.0 l) → m ≡ l ++ (a ∷ []) → Built p m

module _ (p : Pool) (v : PoolValid p) where
  -- a walk from l to m below b
  record Visit (b : ℕ) (l m : List ℕ) : Type 0 where
    built : Built p m
    keeps : (x : ℕ) → In x l → In x m
    new : (x : ℕ) → In x m → In x l ⊎ (x < b)

  runs-built : (f a : ℕ) → ((c : ℕ) (l : List ℕ) → c < a → Built p l → Visit (suc c) l (visit_term f p c l) × In c (visit_term f p c l))
      → (rs : List Two) → ((r : Two) → In r rs → r.0 < a) → (l : List ℕ) → Built p l → Visit a l (visit_runs (visit_term f p) rs l) × ((r : Two) → In r rs → In r.0 (visit_runs (visit_term f p) rs l))
  unfolding visit_runs
  runs-built f a h [] b l B = (record { built = B; keeps = λ x i. i; new = λ x i. inl i }, λ r i. absurd (in-nil i))
  runs-built f a h (r ∷ rs) b l B =
      let (C, i) = h r.0 l (b r here) B in
      let (D, k) = runs-built f a h rs (λ s j. b s (there j)) (visit_term f p r.0 l) C.built in
      let lt = b r here in (
        record { built = D.built; keeps = λ x j. D.keeps x (C.keeps x j); new = λ x j. elim (D.new x j) [ inl y ↦ elim (C.new x y) [ inl z ↦ inl z | inr z ↦ inr (omega arith) ] | inr y ↦ inr y ] },
        λ s j. elim (in-cons j) [ inl e ↦ rw e (D.keeps r.0 i) | inr y ↦ k s y ],
      )

  visit-built : (f a : ℕ) (l : List ℕ) → a < f → a < length p → Built p l → Visit (suc a) l (visit_term f p a l) × In a (visit_term f p a l)
  unfolding visit_term
  visit-built zero a l h k B = absurd (not-suc-le-zero h)
  visit-built (suc f) a l h k B = go (any (eqb a) l) refl (runs-built f a (λ c m q C. visit-built f c m (omega arith) (omega arith) C) (node_at p a).runs (v.nodes a k).below.earlier l B)
    where
      inner : List ℕ
      inner = visit_runs (visit_term f p) (node_at p a).runs l

      go : (b : Bool) → any (eqb a) l ≡ b → Visit a l inner × ((r : Two) → In r (node_at p a).runs → In r.0 inner)
          → Visit (suc a) l (elim b [ true ↦ l | false ↦ inner ++ (a ∷ []) ]) × In a (elim b [ true ↦ l | false ↦ inner ++ (a ∷ []) ])
      go true e D = (record { built = B; keeps = λ x i. i; new = λ x i. inl i }, (let (x, i, q) = any-in (eqb a) l e in rw (eqb-true a x q) i))
      go false e (D, kids) = (
        record {
          built = last D.built k (λ i. elim (D.new a i) [ inl j ↦ clash (sym (eq-eqb a a refl) ∙ any_none (eqb a) l a e j) | inr q ↦ omega arith ]) kids refl;
          keeps = λ x i. in_left (a ∷ []) (D.keeps x i);
          new = λ x i. elim (in-append inner i) [ inl j ↦ elim (D.new x j) [ inl y ↦ inl y | inr y ↦ inr (omega arith) ] | inr j ↦ elim (in-cons j) [ inl q ↦ inr (omega arith) | inr z ↦ absurd (in-nil z) ] ];
        },
        in_right inner here,
      )

  pub walk-built : (a : ℕ) → a < length p → Built p (subterms p a)
  walk-built a h = (visit-built (suc a) a [] (omega arith) h empty).0.built

  -- what holds of the root and, with a term, of its children, holds of every subterm
  runs-all : (P : ℕ → Type 0) (visit : ℕ → List ℕ → List ℕ) (rs : List Two) → ((r : Two) → In r rs → (l : List ℕ) → ((x : ℕ) → In x l → P x) → (x : ℕ) → In x (visit r.0 l) → P x)
      → (l : List ℕ) → ((x : ℕ) → In x l → P x) → (x : ℕ) → In x (visit_runs visit rs l) → P x
  unfolding visit_runs
  runs-all P visit [] g l h = h
  runs-all P visit (r ∷ rs) g l h = runs-all P visit rs (λ s j. g s (there j)) (visit r.0 l) (g r here l h)

  visit-all : (P : ℕ → Type 0) → ((a : ℕ) → a < length p → P a → (r : Two) → In r (node_at p a).runs → P r.0) → (f a : ℕ) (l : List ℕ) → a < length p → P a → ((x : ℕ) → In x l → P x) → (x : ℕ) → In x (visit_term f p a l) → P x
  unfolding visit_term
  visit-all P down zero a l k h H x i = H x i
  visit-all P down (suc f) a l k h H x i =
      go (any (eqb a) l) (runs-all P (visit_term f p) (node_at p a).runs (λ r j m G. visit-all P down f r.0 m (let z = (v.nodes a k).below.earlier r j in omega arith) (down a k h r j) G) l H) i
    where
      inner : List ℕ
      inner = visit_runs (visit_term f p) (node_at p a).runs l

      go : (b : Bool) → ((y : ℕ) → In y inner → P y) → In x (elim b [ true ↦ l | false ↦ inner ++ (a ∷ []) ]) → P x
      go true within j = H x j
      go false within j = elim (in-append inner j) [ inl y ↦ within x y | inr y ↦ elim (in-cons y) [ inl e ↦ rw e h | inr z ↦ absurd (in-nil z) ] ]

  pub subterms-all : (P : ℕ → Type 0) → ((a : ℕ) → a < length p → P a → (r : Two) → In r (node_at p a).runs → P r.0) → (a : ℕ) → a < length p → P a → (x : ℕ) → In x (subterms p a) → P x
  subterms-all P down a k h = visit-all P down (suc a) a [] k h (λ x i. absurd (in-nil i))

-- the root is last
pub root-last : (p : Pool) (a : ℕ) → (0 < length (subterms p a)) × (get_or (subterms p a) (length (subterms p a) - 1) 0 ≡ a)
unfolding visit_term any
root-last p a =
    let inner = visit_runs (visit_term a p) (node_at p a).runs [] in
    let e : length (subterms p a) ≡ suc (length inner) = length-append inner (a ∷ []) ∙ (let w : length inner + 1 ≡ suc (length inner) = omega arith in w) in
    let z : length (subterms p a) - 1 ≡ length inner = omega arith in
    (omega arith, ap (λ (k : ℕ). get_or (subterms p a) k 0) z ∙ get_d-last inner a 0)

-- ---- places
same_number : Decides eqb
same_number = record { alike = λ a. eq-eqb a a refl; equal = λ a b e. eqb-true a b e }

place_in : (x : ℕ) (l : List ℕ) → In x l → (place (eqb x) l < length l) × (get_or l (place (eqb x) l) 0 ≡ x)
unfolding place
place_in x [] i = elim i [ ]
place_in x (y ∷ l) i = go (eqb x y) refl (in-cons i) (λ j. place_in x l j)
  where
    go : (b : Bool) → eqb x y ≡ b → (x ≡ y) ⊎ In x l → (In x l → (place (eqb x) l < length l) × (get_or l (place (eqb x) l) 0 ≡ x)) → (place (eqb x) (y ∷ l) < suc (length l)) × (get_or (y ∷ l) (place (eqb x) (y ∷ l)) 0 ≡ x)
    go true e j ih = rw (place, e) (omega arith, sym (eqb-true x y e))
    go false e (inl q) ih = absurd (eqb-false x y e q)
    go false e (inr j) ih = let (a, b) = ih j in rw (place, e) (omega arith, b)

place-append : (x : ℕ) (l m : List ℕ) → In x l → place (eqb x) (l ++ m) ≡ place (eqb x) l
unfolding place
place-append x [] m i = elim i [ ]
place-append x (y ∷ l) m i = go (eqb x y) refl (in-cons i) (λ j. place-append x l m j)
  where
    go : (b : Bool) → eqb x y ≡ b → (x ≡ y) ⊎ In x l → (In x l → place (eqb x) (l ++ m) ≡ place (eqb x) l) → place (eqb x) (y ∷ (l ++ m)) ≡ place (eqb x) (y ∷ l)
    go true e j ih = rw (place, e) refl
    go false e (inl q) ih = absurd (eqb-false x y e q)
    go false e (inr j) ih = rw (place, e) (ap suc (ih j))

place-apart : (x y : ℕ) (l : List ℕ) → In x l → In y l → place (eqb x) l ≡ place (eqb y) l → x ≡ y
place-apart x y l i j e = sym (place_in x l i).1 ∙ ap (λ (k : ℕ). get_or l k 0) e ∙ (place_in y l j).1

-- ---- nodes over places
abbrev pub by_place : List ℕ → Two → Two
by_place order r = (place (eqb r.0) order, r.1)

abbrev pub renumber : List ℕ → Node → Node
renumber order n = record { head = n.head; op = n.op; value = n.value; runs = map (by_place order) n.runs }

-- the terms of the numbers l, over the places of `order`
abbrev pub nodes_over : Pool → List ℕ → List ℕ → Pool
nodes_over p order l = map (λ a. renumber order (node_at p a)) l

abbrev pub nodes_of : Pool → List ℕ → Pool
nodes_of p l = nodes_over p l l

built-closed : (p : Pool) (l : List ℕ) → Built p l → (a : ℕ) → In a l → (r : Two) → In r (node_at p a).runs → In r.0 l
built-closed p m empty a i r j = absurd (in-nil i)
built-closed p m (last {l = l} {a = b} B h n k e) a i r j = rw e (go (in-append l (rw e at i)) (λ q. built-closed p l B a q r j))
  where
    go : In a l ⊎ In a (b ∷ []) → (In a l → In r.0 l) → In r.0 (l ++ (b ∷ []))
    go (inl q) ih = in_left (b ∷ []) (ih q)
    go (inr q) ih = elim (in-cons q) [ inl z ↦ in_left (b ∷ []) (k r (rw z at j)) | inr z ↦ absurd (in-nil z) ]

pub built-within : (p : Pool) (l : List ℕ) → Built p l → (a : ℕ) → In a l → a < length p
built-within p m empty a i = absurd (in-nil i)
built-within p m (last {l = l} {a = b} B h n k e) a i = go (in-append l (rw e at i)) (λ q. built-within p l B a q)
  where
    go : In a l ⊎ In a (b ∷ []) → (In a l → a < length p) → a < length p
    go (inl q) ih = ih q
    go (inr q) ih = elim (in-cons q) [ inl z ↦ rw z h | inr z ↦ absurd (in-nil z) ]

built-once : (p : Pool) (l : List ℕ) → Built p l → Distinct l
built-once p m empty = none
built-once p m (last {l = l} {a = b} B h n k e) = rw e (distinct-last l b (built-once p l B) n)

renumber-same : (l m : List ℕ) (n : Node) → ((r : Two) → In r n.runs → In r.0 l) → renumber (l ++ m) n ≡ renumber l n
renumber-same l m n h = node-ext (renumber (l ++ m) n) (renumber l n) refl refl refl (map-ext (by_place (l ++ m)) (by_place l) n.runs (λ r i. ap (λ (k : ℕ). (k, r.1)) (place-append r.0 l m (h r i))))

nodes-last : (p : Pool) (l : List ℕ) (a : ℕ) → Built p l → ((r : Two) → In r (node_at p a).runs → In r.0 l) → nodes_of p (l ++ (a ∷ [])) ≡ nodes_of p l ++ (renumber l (node_at p a) ∷ [])
nodes-last p l a B k =
    map-append (λ b. renumber (l ++ (a ∷ [])) (node_at p b)) l (a ∷ [])
    ∙ ap₂ (λ (x y : Pool). x ++ y) (map-ext (λ b. renumber (l ++ (a ∷ [])) (node_at p b)) (λ b. renumber l (node_at p b)) l (λ b i. renumber-same l (a ∷ []) (node_at p b) (λ r j. built-closed p l B b i r j)))
    (ap (λ (n : Node). n ∷ []) (renumber-same l (a ∷ []) (node_at p a) k))

-- runs stay joined, for places are apart
joined_by : (l : List ℕ) (rs : List Two) → ((r : Two) → In r rs → In r.0 l) → Joined rs → Joined (map (by_place l) rs)
joined_by l rs h P.none = P.none
joined_by l rs h P.one = P.one
joined_by l rs h (P.more {r = r} {s = s} {l = k} n j) =
    P.more {r = by_place l r} {s = by_place l s} (λ e. n (place-apart r.0 s.0 l (h r here) (h s (there here)) e)) (joined_by l (s ∷ k) (λ z i. h z (there i)) j)

formed-by : (l : List ℕ) (n : Node) → Formed n → Formed (renumber l n)
formed-by l n (operation e z) = operation e z
formed-by l n (literal e z) = literal e (ap (map (by_place l)) z)
formed-by l n (marked e z u) = marked e z u

-- ---- the lines are a pool of the same trees
pub record Renumbered (p : Pool) (l : List ℕ) : Type 0 where
  pub valid : PoolValid (nodes_of p l)
  pub trees : (i : ℕ) → i < length l → tree_at (nodes_of p l) i ≡ tree_at p (get_or l i 0)

runs-trees : (p q : Pool) (l : List ℕ) (rs : List Two) → ((r : Two) → In r rs → In r.0 l) → ((c : ℕ) → In c l → tree_at q (place (eqb c) l) ≡ tree_at p c) → runs_of (trees_after [] q) (map (by_place l) rs) ≡ runs_of (trees_after [] p) rs
unfolding runs_of
runs-trees p q l [] h g = refl
runs-trees p q l (r ∷ rs) h g = ap₂ (λ (a : Term) (k : Runs). run a r.1 k) (g r.0 (h r here)) (runs-trees p q l rs (λ s i. h s (there i)) g)

node-tree : (p q : Pool) (l : List ℕ) (n : Node) → ((r : Two) → In r n.runs → In r.0 l) → ((c : ℕ) → In c l → tree_at q (place (eqb c) l) ≡ tree_at p c) → Formed n → tree_of (trees_after [] q) (renumber l n) ≡ tree_of (trees_after [] p) n
node-tree p q l n h g (operation e z) = tree-operation (trees_after [] q) (renumber l n) e ∙ ap (node n.op) (runs-trees p q l n.runs h g) ∙ sym (tree-operation (trees_after [] p) n e)
node-tree p q l n h g (literal e z) = tree-literal (trees_after [] q) (renumber l n) e ∙ sym (tree-literal (trees_after [] p) n e)
node-tree p q l n h g (marked e z u) = tree-marked (trees_after [] q) (renumber l n) e ∙ ap variants (runs-trees p q l n.runs h g) ∙ sym (tree-marked (trees_after [] p) n e)

module _ (p : Pool) (v : PoolValid p) where
  module _ (l : List ℕ) (a : ℕ) (B : Built p l) (h : a < length p) (n : In a l → ⊥) (k : (r : Two) → In r (node_at p a).runs → In r.0 l) (R : Renumbered p l) where
    abbrev q : Pool
    q = nodes_of p l

    abbrev new : Node
    new = renumber l (node_at p a)

    long : length q ≡ length l
    long = length-map (λ b. renumber l (node_at p b)) l

    known : (c : ℕ) → In c l → tree_at q (place (eqb c) l) ≡ tree_at p c
    known c i = R.trees (place (eqb c) l) (place_in c l i).0 ∙ ap (tree_at p) (place_in c l i).1

    new-valid : NodeValid (length q) new
    new-valid = record {
      formed = formed-by l (node_at p a) (v.nodes a h).formed;
      below = record {
        earlier = λ r i. let (s, j, e) = map-in (by_place l) (node_at p a).runs r i in rw (← e) (omega (arith, (place_in s.0 l (k s j)).0, long));
        counted = λ r i. let (s, j, e) = map-in (by_place l) (node_at p a).runs r i in rw (← e) ((v.nodes a h).below.counted s j);
      };
      joined = joined_by l (node_at p a).runs k (v.nodes a h).joined;
    }

    new-tree : tree_of (trees_after [] q) new ≡ tree_at p a
    new-tree = node-tree p q l (node_at p a) k known (v.nodes a h).formed ∙ sym (tree_is p v a h)

    not_there : (i : ℕ) → i < length q → node_at q i ≡ new → ⊥
    not_there i b e =
        let lt : i < length l = omega (arith, long) in
        let same : tree_at p (get_or l i 0) ≡ tree_at p a = sym (R.trees i lt) ∙ tree_is q R.valid i b ∙ ap (tree_of (trees_after [] q)) e ∙ new-tree in
        n (rw (← trees-apart p v (get_or l i 0) a (built-within p l B (get_or l i 0) (get_in 0 l i lt)) h same) (get_in 0 l i lt))

    one_more : Renumbered p (l ++ (a ∷ []))
    one_more = record {
      valid = rw (nodes-last p l a B k) (added q new R.valid new-valid (absent q new R.valid new-valid not_there)).valid;
      trees = λ i b. rw (nodes-last p l a B k) (go i (eq-or-lt_of_le {n = i} {m = length l} (omega (arith, length-append l (a ∷ [])))));
    }
      where
        go : (i : ℕ) → (i ≡ length l) ⊎ (i < length l) → tree_at (q ++ (new ∷ [])) i ≡ tree_at p (get_or (l ++ (a ∷ [])) i 0)
        go i (inl e) = ap (tree_at (q ++ (new ∷ []))) (e ∙ sym long) ∙ tree-last q new ∙ new-tree ∙ ap (tree_at p) (sym (ap (λ (z : ℕ). get_or (l ++ (a ∷ [])) z 0) e ∙ get_d-last l a 0))
        go i (inr b) = tree-grows q (new ∷ []) i (omega (arith, long)) ∙ R.trees i b ∙ ap (tree_at p) (sym (get_or-append l (a ∷ []) 0 i b))

  pub renumbered : (l : List ℕ) → Built p l → Renumbered p l
  renumbered l empty = record { valid = empty-valid; trees = λ i b. absurd (not-suc-le-zero b) }
  renumbered l (last {l = m} {a = a} B h n k e) = rw e (one_more m a B h n k (renumbered m B))

-- ---- they are no more than the pool's terms, and have no more runs
module _ (p : Pool) (v : PoolValid p) where
  nodes-once : (l : List ℕ) → Built p l → Distinct (map (node_at p) l)
  nodes-once l empty = none
  nodes-once l (last {l = m} {a = a} B h n k e) =
      rw (e, map_snoc (node_at p) m a) (distinct-last (map (node_at p) m) (node_at p a) (nodes-once m B) (λ i. let (b, j, q) = map-in (node_at p) m (node_at p a) i in n (rw (← v.apart b a (built-within p m B b j) h q) j)))

  nodes-in : (l : List ℕ) → Built p l → (x : Node) → In x (map (node_at p) l) → In x p
  nodes-in l B x i = let (a, j, e) = map-in (node_at p) l x i in rw (← e) (get_in _ p a (built-within p l B a j))

  pub no-more-terms : (l : List ℕ) → Built p l → length (nodes_of p l) ≤ length p
  no-more-terms l B = omega (arith, length-map (λ a. renumber l (node_at p a)) l, length-map (node_at p) l, pigeon (map (node_at p) l) p (nodes-once l B) (nodes-in l B))

  pub no-more-runs : (l : List ℕ) → Built p l → run_count (nodes_of p l) ≤ run_count p
  unfolding run_count
  no-more-runs l B = omega (arith, ap sum same, weighed (λ n. length n.runs) (map (node_at p) l) p (nodes-once l B) (nodes-in l B))
    where
      same : map (λ n. length n.runs) (nodes_of p l) ≡ map (λ n. length n.runs) (map (node_at p) l)
      same =
          map-map (λ a. renumber l (node_at p a)) (λ n. length n.runs) l
          ∙ map-ext (λ a. length (renumber l (node_at p a)).runs) (λ a. length (node_at p a).runs) l (λ a i. length-map (by_place l) (node_at p a).runs)
          ∙ sym (map-map (node_at p) (λ n. length n.runs) l)

-- ---- each line has its own number
pub own-number : (p : Pool) (l : List ℕ) → Built p l → (i : ℕ) → i < length l → place (eqb (get_or l i 0)) l ≡ i
own-number p l B i h = place_at same_number 0 l i (built-once p l B) h
