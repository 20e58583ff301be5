-- The trees of a valid pool's nodes are those of Counted: joining, sorting and counting runs by numbers is joining, sorting and counting them by trees.
use Rattle.std.specs.Prelude.{◌≡◌, Bool, eqb, get_or, replicate}
use Rattle.std.proofs.Math.Path.{refl, sym, ap, ap₂}
use Rattle.std.proofs.Common.{◌∙◌, inl, inr, arith, eqb-true, eq-eqb, ext_get_or}
use Rattle.std.proofs.Math.Bool.{true, false}
use mathlib.Core.List.{List, [], ◌∷◌, ◌++◌, map}
use Prim.Native.Nat.{ℕ, zero, suc, ◌+◌, ◌≤◌, ◌<◌}
use Rattle.std.proofs.lemmas.Bool.{eqb-false}
use Rattle.std.proofs.Math.ListN.{length, get_or-map}
use Rattle.spec.specs.Bytes.{pick, both, sum, Two}
use Rattle.spec.specs.Image.{Tables, kind_of, is_commutative}
use Rattle.spec.specs.Pool.{Node, Pool, node_at, join_to, join_runs, op_node, variants_node, run_count, Order, compareℕ, then, is_greater, structural_cmp, insert_run, sort_runs}
use Rattle.spec.specs.Round.{plan_runs}
use Rattle.spec.specs.Meaning.{In, here, there, Term, lit, node, variants, Runs, done, run, expand, runs_of, tree_of, trees_after, tree_at}
use Rattle.laws.specs.Tests.{both_true, clash}
use Rattle.laws.specs.Lists.{length-map, in-append, in-nil}
use Rattle.laws.specs.Bag.{replicate-in}
use Rattle.pools.specs.Pool.{RunsBelow, runs-below-tail, runs-below-cons, runs-below-nil, Formed, operation, literal, marked, NodeValid, PoolValid, numbered, join-below, trees-length, tree-operation, tree-literal, tree-marked}
use Rattle.pools.specs.PoolTrees.{tree_is, valid-below}
use Rattle.pools.proofs.PoolTrees.{trees-apart}
use Rattle.pools.specs.PoolSort.{sort-perm, perm-below, action_runs}
use Rattle.pools.specs.OrderTerms.{head_of, op_of, value_of, expanded_children, lex, term_cmp}
use Rattle.pools.proofs.Order.{as-expanded, tree-fuel}
use Rattle.counted.specs.Counted.{same_tree, same_runs, join_tree, join_trees, runs_in, tree_runs, places, places_in, tree_cmp, insert_tree, sort_trees, marked_tree, plan_trees}

-- ---- the same tree
mutual
  unfolding same_tree

  pub same-tree : (a b : Term) → same_tree a b ≡ true → a ≡ b
  same-tree (lit o v) (lit p w) e = let (x, y) = (both_true (eqb o p) (eqb v w)).0 e in ap₂ lit (eqb-true o p x) (eqb-true v w y)
  same-tree (lit o v) (node p s) e = absurd (clash (sym e))
  same-tree (lit o v) (variants s) e = absurd (clash (sym e))
  same-tree (node o r) (lit p w) e = absurd (clash (sym e))
  same-tree (node o r) (node p s) e = let (x, y) = (both_true (eqb o p) (same_runs r s)).0 e in ap₂ node (eqb-true o p x) (same-runs r s y)
  same-tree (node o r) (variants s) e = absurd (clash (sym e))
  same-tree (variants r) (lit p w) e = absurd (clash (sym e))
  same-tree (variants r) (node p s) e = absurd (clash (sym e))
  same-tree (variants r) (variants s) e = ap variants (same-runs r s e)

  same-runs : (r s : Runs) → same_runs r s ≡ true → r ≡ s
  same-runs done done e = refl
  same-runs done (run b m s) e = absurd (clash (sym e))
  same-runs (run a n r) done e = absurd (clash (sym e))
  same-runs (run a n r) (run b m s) e =
      let (x, f) = (both_true (same_tree a b) (both (eqb n m) (same_runs r s))).0 e in
      let (y, z) = (both_true (eqb n m) (same_runs r s)).0 f in
      let u = same-tree a b x in let w = eqb-true n m y in let q = same-runs r s z in
      λ i. run (u i) (w i) (q i)

mutual
  unfolding same_tree

  tree-same : (a : Term) → same_tree a a ≡ true
  tree-same (lit o v) = rw (eq-eqb o o refl, eq-eqb v v refl) refl
  tree-same (node o r) = rw (eq-eqb o o refl) (runs_same r)
  tree-same (variants r) = runs_same r

  runs_same : (r : Runs) → same_runs r r ≡ true
  runs_same done = refl
  runs_same (run a n r) = ap₂ both (tree-same a) (ap₂ both (eq-eqb n n refl) (runs_same r))

-- ---- comparing two trees: fuel above the places of the first changes nothing
replicate-places : (a : Term) (n : ℕ) (r : Runs) (x : Term) → In x (replicate n a ++ expand r) → (In x (expand r) → places x ≤ places_in r) → places x ≤ places_in (run a n r)
unfolding places
replicate-places a n r x i h = elim (in-append (replicate n a) i) [ inl j ↦ omega (arith, ap places (replicate-in n j).0) | inr j ↦ omega (arith, h j) ]

child-places : (r : Runs) (x : Term) → In x (expand r) → places x ≤ places_in r
unfolding expand
child-places done x i = absurd (in-nil i)
child-places (run a n r) x i = replicate-places a n r x i (λ j. child-places r x j)

kid-places : (a x : Term) → In x (expanded_children a) → places x < places a
unfolding expanded_children places
kid-places (lit o v) x i = absurd (in-nil i)
kid-places (node o r) x i = omega (arith, child-places r x i)
kid-places (variants r) x i = omega (arith, child-places r x i)

some-place : (a : Term) → 1 ≤ places a
unfolding places
some-place (lit o v) = omega arith
some-place (node o r) = omega arith
some-place (variants r) = omega arith

lex-agrees : (f g : Term → Term → Order) (l m : List Term) → ((x y : Term) → In x l → f x y ≡ g x y) → lex f l m ≡ lex g l m
unfolding lex
lex-agrees f g [] [] h = refl
lex-agrees f g [] (y ∷ m) h = refl
lex-agrees f g (x ∷ l) [] h = refl
lex-agrees f g (x ∷ l) (y ∷ m) h = ap₂ then (h x y here) (lex-agrees f g l m (λ z u i. h z u (there i)))

enough-fuel : (f g : ℕ) (a b : Term) → places a ≤ f → places a ≤ g → term_cmp f a b ≡ term_cmp g a b
unfolding term_cmp
enough-fuel zero g a b h k = absurd (omega (arith, some-place a))
enough-fuel (suc f) zero a b h k = absurd (omega (arith, some-place a))
enough-fuel (suc f) (suc g) a b h k =
    ap (λ (z : Order). then (compareℕ (head_of a) (head_of b)) (then (compareℕ (op_of a) (op_of b)) (then (compareℕ (value_of a) (value_of b)) (then (compareℕ (length (expanded_children a)) (length (expanded_children b))) z))))
    (lex-agrees (term_cmp f) (term_cmp g) (expanded_children a) (expanded_children b) (λ x y i. let z = kid-places a x i in enough-fuel f g x y (omega arith) (omega arith)))

module _ (p : Pool) (v : PoolValid p) where
  abbrev T : List Term
  T = trees_after [] p

  cmp-trees : (a b : ℕ) → a < length p → b < length p → structural_cmp (length p) p a b ≡ tree_cmp (tree_at p a) (tree_at p b)
  cmp-trees a b h k =
      let n = length p + places (tree_at p a) in
      as-expanded p v a b h k
      ∙ tree-fuel p v (length p) n a b h k (omega arith) (omega arith) h k
      ∙ enough-fuel n (places (tree_at p a)) (tree_at p a) (tree_at p b) (omega arith) (omega arith)

  -- the same number, the same tree
  test-trees : (a b : ℕ) → a < length p → b < length p → eqb a b ≡ same_tree (tree_at p a) (tree_at p b)
  test-trees a b h k = go (eqb a b) refl (same_tree (tree_at p a) (tree_at p b)) refl
    where
      go : (x : Bool) → eqb a b ≡ x → (y : Bool) → same_tree (tree_at p a) (tree_at p b) ≡ y → x ≡ y
      go true e true f = refl
      go true e false f = absurd (clash (sym (tree-same (tree_at p b)) ∙ sym (ap (λ (z : ℕ). same_tree (tree_at p z) (tree_at p b)) (eqb-true a b e)) ∙ f))
      go false e true f = absurd (eqb-false a b e (trees-apart p v a b h k (same-tree (tree_at p a) (tree_at p b) f)))
      go false e false f = refl

  -- ---- joining
  join_to-trees : (r : Two) (l : List Two) → r.0 < length p → RunsBelow (length p) l → runs_of T (join_to r l) ≡ join_tree (numbered T r.0) r.1 (runs_of T l)
  unfolding runs_of
  join_to-trees r [] h b = refl
  join_to-trees r (s ∷ l) h b = go (eqb r.0 s.0) (same_tree (numbered T r.0) (numbered T s.0)) (test-trees r.0 s.0 h (b.earlier s here))
    where
      go : (x y : Bool) → x ≡ y → runs_of T (pick x ((r.0, r.1 + s.1) ∷ l) (r ∷ s ∷ l)) ≡ pick y (run (numbered T r.0) (r.1 + s.1) (runs_of T l)) (run (numbered T r.0) r.1 (run (numbered T s.0) s.1 (runs_of T l)))
      go true y e = rw (← e) refl
      go false y e = rw (← e) refl

  pub join-trees : (l : List Two) → RunsBelow (length p) l → runs_of T (join_runs l) ≡ join_trees (runs_of T l)
  unfolding join_runs join_trees runs_of
  join-trees [] b = refl
  join-trees (r ∷ l) b = join_to-trees r (join_runs l) (b.earlier r here) (join-below (length p) l (runs-below-tail b)) ∙ ap (join_tree (numbered T r.0) r.1) (join-trees l (runs-below-tail b))

  -- ---- sorting
  insert-trees : (r : Two) (l : List Two) → r.0 < length p → RunsBelow (length p) l → runs_of T (insert_run p r l) ≡ insert_tree (numbered T r.0) r.1 (runs_of T l)
  unfolding insert_run insert_tree runs_of
  insert-trees r [] h b = refl
  insert-trees r (s ∷ l) h b = go (is_greater (structural_cmp (length p) p r.0 s.0)) (is_greater (tree_cmp (numbered T r.0) (numbered T s.0))) (ap is_greater (cmp-trees r.0 s.0 h (b.earlier s here))) (insert-trees r l h (runs-below-tail b))
    where
      go : (x y : Bool) → x ≡ y → runs_of T (insert_run p r l) ≡ insert_tree (numbered T r.0) r.1 (runs_of T l)
          → runs_of T (elim x [ true ↦ s ∷ insert_run p r l | false ↦ r ∷ s ∷ l ]) ≡ elim y [ true ↦ run (numbered T s.0) s.1 (insert_tree (numbered T r.0) r.1 (runs_of T l)) | false ↦ run (numbered T r.0) r.1 (run (numbered T s.0) s.1 (runs_of T l)) ]
      go true y e ih = rw (← e) (ap (run (numbered T s.0) s.1) ih)
      go false y e ih = rw (← e) refl

  sort-trees : (l : List Two) → RunsBelow (length p) l → runs_of T (sort_runs p l) ≡ sort_trees (runs_of T l)
  unfolding sort_runs sort_trees runs_of
  sort-trees [] b = refl
  sort-trees (r ∷ l) b = insert-trees r (sort_runs p l) (b.earlier r here) (perm-below (sort-perm p l) (runs-below-tail b)) ∙ ap (insert_tree (numbered T r.0) r.1) (sort-trees l (runs-below-tail b))

  -- ---- an operation's node over runs, and an action's
  pub op-tree : (o : ℕ) (l : List Two) → RunsBelow (length p) l → tree_of T (op_node o l) ≡ node o (join_trees (runs_of T l))
  op-tree o l b = tree-operation T (op_node o l) refl ∙ ap (node o) (join-trees l b)

  -- .. and a marked place's
  pub marked-tree : (a b : ℕ) → a < length p → b < length p → tree_of T (variants_node a b) ≡ marked_tree (numbered T a) (numbered T b)
  unfolding runs_of
  marked-tree a b h k =
      tree-marked T (variants_node a b) refl ∙ ap variants (join-trees ((a, 1) ∷ (b, 1) ∷ []) (runs-below-cons h (omega arith) (runs-below-cons k (omega arith) (runs-below-nil (length p)))))

  pub action-tree : (t : Tables) (o : ℕ) (l : List Two) → RunsBelow (length p) l
      → tree_of T (op_node o (action_runs t p o l)) ≡ node o (join_trees (pick (is_commutative (kind_of t o)) (sort_trees (runs_of T l)) (runs_of T l)))
  action-tree t o l b = go (is_commutative (kind_of t o))
    where
      go : (x : Bool) → tree_of T (op_node o (pick x (sort_runs p l) l)) ≡ node o (join_trees (pick x (sort_trees (runs_of T l)) (runs_of T l)))
      go true = op-tree o (sort_runs p l) (perm-below (sort-perm p l) b) ∙ ap (λ (z : Runs). node o (join_trees z)) (sort-trees l b)
      go false = op-tree o l b

  -- the places of a choice, where `of` gives the numbers of the trees `f`
  pub plan-trees : (of : Two → ℕ) (f : Two → Term) (ps : List Two) (x : List ℕ) → ((c : Two) → In c ps → tree_at p (of c) ≡ f c) → runs_of T (plan_runs of ps x) ≡ plan_trees f ps x
  unfolding plan_runs plan_trees runs_of
  plan-trees of f [] x h = refl
  plan-trees of f (c ∷ ps) [] h = refl
  plan-trees of f (c ∷ ps) (n ∷ x) h = go (eqb n 0) (plan-trees of f ps x (λ d i. h d (there i)))
    where
      go : (y : Bool) → runs_of T (plan_runs of ps x) ≡ plan_trees f ps x → runs_of T (elim y [ true ↦ plan_runs of ps x | false ↦ (of c, n) ∷ plan_runs of ps x ]) ≡ elim y [ true ↦ plan_trees f ps x | false ↦ run (f c) n (plan_trees f ps x) ]
      go true ih = ih
      go false ih = ap₂ (λ (a : Term) (r : Runs). run a n r) (h c here) ih

  -- ---- counting runs
  runs-length : (l : List Two) → runs_in (runs_of T l) ≡ length l
  unfolding runs_in runs_of
  runs-length [] = refl
  runs-length (r ∷ l) = ap suc (runs-length l)

  pub node-runs : (n : Node) → NodeValid (length p) n → tree_runs (tree_of T n) ≡ length n.runs
  unfolding tree_runs runs_of
  node-runs n w = go w.formed
    where
      go : Formed n → tree_runs (tree_of T n) ≡ length n.runs
      go (operation e z) = ap tree_runs (tree-operation T n e) ∙ runs-length n.runs
      go (literal e z) = ap tree_runs (tree-literal T n e) ∙ sym (ap (λ (l : List Two). length l) z)
      go (marked e z u) = ap tree_runs (tree-marked T n e) ∙ runs-length n.runs

  -- a pool has as many runs as its trees
  pub pool-runs : sum (map tree_runs T) ≡ run_count p
  unfolding run_count tree_runs
  pool-runs = ap sum (ext_get_or 0 (map tree_runs T) (map (λ n. length n.runs) p) long (λ i h. each i (omega (arith, long, length-map (λ (n : Node). length n.runs) p))))
    where
      long : length (map tree_runs T) ≡ length (map (λ n. length n.runs) p)
      long = omega (arith, length-map tree_runs T, trees-length [] p, length-map (λ (n : Node). length n.runs) p)

      each : (i : ℕ) → i < length p → get_or (map tree_runs T) i 0 ≡ get_or (map (λ n. length n.runs) p) i 0
      each i h =
          get_or-map tree_runs T i (lit 0 0)
          ∙ ap tree_runs (tree_is p v i h)
          ∙ node-runs (node_at p i) (valid-below i (length p) (node_at p i) (omega arith) (v.nodes i h))
          ∙ sym (get_or-map (λ (n : Node). length n.runs) p i (record { head = 0; op = 0; value = 0; runs = [] }))
