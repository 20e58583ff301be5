-- How many runs a term has that is counted for 13: a best term at most 64, a marked place 2, a final term 64 or as many as there are pairs.
use Rattle.std.specs.Prelude.{◌≡◌, ◌⊎◌, Bool, true, false, ℕ, suc, ◌+◌, ◌≤◌, ◌<◌, max, eqb, length}
use Rattle.std.proofs.Math.Path.{refl, ap}
use Rattle.std.proofs.Common.{sym, ◌∙◌, arith}
use Rattle.std.proofs.Math.Logic.{inl, inr}
use mathlib.Core.List.{List, [], ◌∷◌, map}
use Rattle.std.proofs.lemmas.Bool.{eqb-false}
use Rattle.spec.specs.Bytes.{pick, Two}
use Rattle.spec.specs.Image.{Tables, kind_of, is_commutative}
use Rattle.spec.specs.Action.{joins}
use Rattle.spec.specs.Pool.{Pool, join_to, join_runs, op_node, is_greater, sort_runs}
use Rattle.spec.specs.Pairs.{pairs}
use Rattle.spec.specs.Round.{Act, Choice, stay, act, turn_of, plan_runs}
use Rattle.spec.specs.Meaning.{In, here, there, Term, node, Runs, done, run, tree_of, trees_after, tree_at}
use Rattle.laws.specs.Valid.{Valid}
use Rattle.laws.specs.Lists.{in-nil, in-cons, in_map, length-map, Distinct, none, more, pigeon}
use Rattle.laws.specs.Bag.{perm-sym, perm_in}
use Rattle.pools.specs.Pool.{RunsBelow, runs-below-tail, NodeValid, PoolValid, op-valid}
use Rattle.pools.specs.PoolSort.{sort-perm, perm-below, plan-below, action_runs}
use Rattle.pools.proofs.PoolSort.{action-perm}
use Rattle.pools.specs.Order.{NotAfter}
use Rattle.pools.proofs.Order.{antisymmetric}
use Rattle.pools.specs.OrderSort.{Sorted}
use Rattle.pools.proofs.OrderSort.{sort_sorted, not-after-self, all-later}
use Rattle.pools.specs.OrderSort as S
use Rattle.steps.specs.Graph.{Closed}
use Rattle.lgg.specs.TurnPlaces.{turn-choice, choice-joins, structural-made, children-few}
use Rattle.readings.specs.ReadingsActions.{transport-carries}
use Rattle.counted.specs.Counted.{same_tree, join_tree, join_trees, runs_in, tree_runs, tree_cmp, insert_tree, sort_trees, child_trees, marked_tree, plan_trees, choice_tree}
use Rattle.counted.specs.CountedTrees.{action-tree, plan-trees, node-runs}

-- ---- the runs of a term
pub join-runs : (r : Runs) → runs_in (join_trees r) ≤ runs_in r
unfolding join_trees runs_in
join-runs done = omega arith
join-runs (run a n r) = let z = first (join_trees r) in let y = join-runs r in omega arith
  where
    first : (s : Runs) → runs_in (join_tree a n s) ≤ suc (runs_in s)
    first done = omega arith
    first (run b m s) = go (same_tree a b)
      where
        go : (x : Bool) → runs_in (pick x (run a (n + m) s) (run a n (run b m s))) ≤ suc (suc (runs_in s))
        go true = omega arith
        go false = omega arith

insert-runs : (a : Term) (n : ℕ) (r : Runs) → runs_in (insert_tree a n r) ≡ suc (runs_in r)
unfolding insert_tree runs_in
insert-runs a n done = refl
insert-runs a n (run b m r) = go (is_greater (tree_cmp a b)) (insert-runs a n r)
  where
    go : (x : Bool) → runs_in (insert_tree a n r) ≡ suc (runs_in r) → runs_in (elim x [ true ↦ run b m (insert_tree a n r) | false ↦ run a n (run b m r) ]) ≡ suc (suc (runs_in r))
    go true ih = ap suc ih
    go false ih = refl

sort-runs : (r : Runs) → runs_in (sort_trees r) ≡ runs_in r
unfolding sort_trees runs_in
sort-runs done = refl
sort-runs (run a n r) = insert-runs a n (sort_trees r) ∙ ap suc (sort-runs r)

pub child-runs : (f : ℕ → Term) (l : List Two) → runs_in (child_trees f l) ≡ length l
unfolding child_trees runs_in
child-runs f [] = refl
child-runs f (c ∷ l) = ap suc (child-runs f l)

plan-runs : (f : Two → Term) (ps : List Two) (x : List ℕ) → runs_in (plan_trees f ps x) ≤ length ps
unfolding plan_trees runs_in
plan-runs f [] x = omega arith
plan-runs f (p ∷ ps) [] = omega arith
plan-runs f (p ∷ ps) (n ∷ x) = go (eqb n 0) (plan-runs f ps x)
  where
    go : (y : Bool) → runs_in (plan_trees f ps x) ≤ length ps → runs_in (elim y [ true ↦ plan_trees f ps x | false ↦ run (f p) n (plan_trees f ps x) ]) ≤ suc (length ps)
    go true ih = omega arith
    go false ih = omega arith

pub marked-runs : (a b : Term) → tree_runs (marked_tree a b) ≤ 2
unfolding tree_runs runs_in
marked-runs a b = join-runs (run a 1 (run b 1 done))

-- the term of an action has at most as many runs as the action has places
pub choice-places : (t : Tables) (f : Two → Term) (old : Term) (a : Act) → tree_runs (choice_tree t f old (act a)) ≤ length a.places
unfolding choice_tree tree_runs
choice-places t f old a = go (is_commutative (kind_of t a.op))
  where
    go : (y : Bool) → runs_in (join_trees (pick y (sort_trees (plan_trees f a.places a.counts)) (plan_trees f a.places a.counts))) ≤ length a.places
    go true = omega (arith, join-runs (sort_trees (plan_trees f a.places a.counts)), sort-runs (plan_trees f a.places a.counts), plan-runs f a.places a.counts)
    go false = omega (arith, join-runs (plan_trees f a.places a.counts), plan-runs f a.places a.counts)

-- ---- sorted runs, joined: each number once
join-head : (r : Two) (l : List Two) → (n : ℕ) × (m : List Two) × (join_runs (r ∷ l) ≡ (r.0, n) ∷ m)
unfolding join_runs
join-head r l = go (join_runs l)
  where
    go : (k : List Two) → (n : ℕ) × (m : List Two) × (join_to r k ≡ (r.0, n) ∷ m)
    go [] = (r.1, [], refl)
    go (s ∷ k) = by (eqb r.0 s.0)
      where
        by : (x : Bool) → (n : ℕ) × (m : List Two) × (pick x ((r.0, r.1 + s.1) ∷ k) (r ∷ s ∷ k) ≡ (r.0, n) ∷ m)
        by true = (r.1 + s.1, k, refl)
        by false = (r.1, s ∷ k, refl)

module _ (p : Pool) (v : PoolValid p) where
  -- the numbers of the joined runs
  record Once (l : List Two) : Type 0 where
    numbers : List ℕ
    distinct : Distinct numbers
    long : length numbers ≡ length (join_runs l)
    of : (d : ℕ) → In d numbers → (r : Two) × In r l × (d ≡ r.0)

  sorted-once : (l : List Two) → RunsBelow (length p) l → Sorted p l → Once l
  unfolding join_runs
  sorted-once [] b s = record { numbers = []; distinct = none; long = refl; of = λ d i. absurd (in-nil i) }
  sorted-once (r ∷ []) b s = record { numbers = r.0 ∷ []; distinct = more in-nil none; long = refl; of = λ d i. elim (in-cons i) [ inl e ↦ (r, here, e) | inr j ↦ absurd (in-nil j) ] }
  sorted-once (r ∷ u ∷ l) b (S.more h s) = go (sorted-once (u ∷ l) (runs-below-tail b) s) (join-head u l)
    where
      go : Once (u ∷ l) → (n : ℕ) × (m : List Two) × (join_runs (u ∷ l) ≡ (u.0, n) ∷ m) → Once (r ∷ u ∷ l)
      go K (n, m, e) = by (eqb r.0 u.0) refl
        where
          joined : join_runs (r ∷ u ∷ l) ≡ pick (eqb r.0 u.0) ((r.0, r.1 + n) ∷ m) (r ∷ (u.0, n) ∷ m)
          joined = ap (join_to r) e

          before : length K.numbers ≡ suc (length m)
          before = K.long ∙ ap (λ (z : List Two). length z) e

          -- a number of the later runs is not before the next one
          new : eqb r.0 u.0 ≡ false → In r.0 K.numbers → ⊥
          new z i =
              let (x, j, q) = K.of r.0 i in
              eqb-false r.0 u.0 z (antisymmetric p v r.0 u.0 (b.earlier r here) (b.earlier u (there here)) h (rw q (after x (in-cons j))))
            where
              after : (x : Two) → (x ≡ u) ⊎ In x l → NotAfter p u.0 x.0
              after x (inl e) = rw e (not-after-self p v u.0 (b.earlier u (there here)))
              after x (inr j) = all-later p v u l (runs-below-tail b) s x j

          by : (x : Bool) → eqb r.0 u.0 ≡ x → Once (r ∷ u ∷ l)
          by true z = record {
            numbers = K.numbers;
            distinct = K.distinct;
            long = before ∙ sym (ap (λ (k : List Two). length k) (joined ∙ ap (λ (x : Bool). pick x ((r.0, r.1 + n) ∷ m) (r ∷ (u.0, n) ∷ m)) z));
            of = λ d i. let (x, j, q) = K.of d i in (x, there j, q);
          }
          by false z = record {
            numbers = r.0 ∷ K.numbers;
            distinct = more (new z) K.distinct;
            long = ap suc before ∙ sym (ap (λ (k : List Two). length k) (joined ∙ ap (λ (x : Bool). pick x ((r.0, r.1 + n) ∷ m) (r ∷ (u.0, n) ∷ m)) z));
            of = λ d i. elim (in-cons i) [ inl q ↦ (r, here, q) | inr k ↦ let (x, j, q) = K.of d k in (x, there j, q) ];
          }

  -- sorted and joined they are at most as many as the numbers that they can have
  pub sorted-few : (l : List Two) → RunsBelow (length p) l → (ns : List ℕ) → ((r : Two) → In r l → In r.0 ns) → length (join_runs (sort_runs p l)) ≤ length ns
  sorted-few l b ns h = omega (arith, K.long, pigeon K.numbers ns K.distinct (λ d i. let (r, j, e) = K.of d i in rw e (h r (perm_in (perm-sym (sort-perm p l)) j))))
    where
      K : Once (sort_runs p l)
      K = sorted-once (sort_runs p l) (perm-below (sort-perm p l) b) (sort_sorted p v l b)

-- ---- the term of a choice
-- in pool p the number `of c` means the tree `f c`
abbrev pub Stands : Pool → (Two → ℕ) → (Two → Term) → Two → Type 0
Stands p of f c = (of c < length p) × (tree_at p (of c) ≡ f c)

plan-in : (of : Two → ℕ) (l : List Two) (x : List ℕ) (r : Two) → In r (plan_runs of l x) → (c : Two) × In c l × (r.0 ≡ of c)
unfolding plan_runs
plan-in of [] x r i = absurd (in-nil i)
plan-in of (c ∷ l) [] r i = absurd (in-nil i)
plan-in of (c ∷ l) (n ∷ x) r i = go (eqb n 0) i (λ j. plan-in of l x r j)
  where
    go : (b : Bool) → In r (elim b [ true ↦ plan_runs of l x | false ↦ (of c, n) ∷ plan_runs of l x ]) → (In r (plan_runs of l x) → (d : Two) × In d l × (r.0 ≡ of d)) → (d : Two) × In d (c ∷ l) × (r.0 ≡ of d)
    go true j ih = let (d, k, e) = ih j in (d, there k, e)
    go false j ih = elim (in-cons j) [ inl e ↦ (c, here, ap (λ (z : Two). z.0) e) | inr k ↦ let (d, m, e) = ih k in (d, there m, e) ]

module _ (t : Tables) (p : Pool) (v : PoolValid p) (of : Two → ℕ) (f : Two → Term) (a : Act) (stands : (d : Two) → In d a.places → Stands p of f d) where
  pub choice-below : RunsBelow (length p) (plan_runs of a.places a.counts)
  choice-below = plan-below of (length p) a.places a.counts (λ d i. (stands d i).0)

  -- the node that an action enters is the tree of its choice
  pub choice-tree : (old : Term) → tree_of (trees_after [] p) (op_node a.op (action_runs t p a.op (plan_runs of a.places a.counts))) ≡ choice_tree t f old (act a)
  unfolding choice_tree
  choice-tree old = action-tree p v t a.op (plan_runs of a.places a.counts) choice-below ∙ ap (λ (z : Runs). node a.op (join_trees (pick (is_commutative (kind_of t a.op)) (sort_trees z) z))) (plan-trees p v of f a.places a.counts (λ d i. (stands d i).1))

  pub choice-valid : NodeValid (length p) (op_node a.op (action_runs t p a.op (plan_runs of a.places a.counts)))
  choice-valid = op-valid (length p) a.op (action_runs t p a.op (plan_runs of a.places a.counts)) (perm-below (action-perm t p a.op (plan_runs of a.places a.counts)) choice-below)

  -- a sorted one has each child once: at most as many runs as there are pairs
  pub choice-pairs : (ps : List Two) → ((d : Two) → In d a.places → In d ps) → is_commutative (kind_of t a.op) ≡ true → (old : Term) → tree_runs (choice_tree t f old (act a)) ≤ length ps
  choice-pairs ps h e old =
      let n = node-runs p v (op_node a.op (action_runs t p a.op (plan_runs of a.places a.counts))) choice-valid in
      let s : action_runs t p a.op (plan_runs of a.places a.counts) ≡ sort_runs p (plan_runs of a.places a.counts) = rw e refl in
      omega (
        arith,
        ap tree_runs (choice-tree old),
        n,
        ap (λ (z : List Two). length (join_runs z)) s,
        sorted-few p v (plan_runs of a.places a.counts) choice-below (map of ps) (λ r i. let (d, j, q) = plan-in of a.places a.counts r i in rw q (in_map of (h d j))),
        length-map of ps,
      )

-- a turn's action has at most 64 places, or its children are sorted
turn_small : (t : Tables) → Valid t → (q : Two → Two) (p : Two) (a : Act) → (turn_of t q p).choice ≡ act a → (length a.places ≤ 64) ⊎ (is_commutative (kind_of t a.op) ≡ true)
turn_small t v q p = turn-choice (λ a. (length a.places ≤ 64) ⊎ (is_commutative (kind_of t a.op) ≡ true)) t q p
    (λ a i. let (m, j, z) = structural-made t p.0 p.1 a i in inl (omega (arith, children-few t v m p.0 j, z.1)))
    (λ a i x e. inr (transport-carries t v p.0 p.1 a i).free)

abbrev pub Acts : Choice → Type 0
Acts stay = ⊥
Acts (act a) = Unit

-- The term of a turn that acts has at most 64 runs, or as many as there are pairs; its places stand in some pool.
pub turn-few : (t : Tables) → Valid t → (ps : List Two) → Closed (pairs t) ps → (q : Two → Two) (c : Two) → In c ps → (p : Pool) → PoolValid p → (of : Two → ℕ) (f : Two → Term) → ((d : Two) → In d (joins t c) → Stands p of f d)
    → Acts (turn_of t q c).choice → tree_runs (choice_tree t f (f c) (turn_of t q c).choice) ≤ max 64 (length ps)
turn-few t v ps closed q c i p w of f h b = go (turn_of t q c).choice refl b
  where
    go : (ch : Choice) → (turn_of t q c).choice ≡ ch → Acts ch → tree_runs (choice_tree t f (f c) ch) ≤ max 64 (length ps)
    go stay e z = absurd z
    go (act a) e z = by (turn_small t v q c a e)
      where
        by : (length a.places ≤ 64) ⊎ (is_commutative (kind_of t a.op) ≡ true) → tree_runs (choice_tree t f (f c) (act a)) ≤ max 64 (length ps)
        by (inl s) = omega (arith, choice-places t f (f c) a)
        by (inr s) = omega (arith, choice-pairs t p w of f a (λ d j. h d (choice-joins t q c a e d j)) ps (λ d j. closed c d i (choice-joins t q c a e d j)) s (f c))
