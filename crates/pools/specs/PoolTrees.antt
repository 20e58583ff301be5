-- The numbers of a valid pool mean trees over the trees of earlier numbers, and different numbers mean different trees.
use Rattle.std.specs.Prelude.{◌≡◌, refl, List, [], ◌∷◌, ◌++◌, map, ℕ, zero, suc, ◌+◌, ◌≤◌, ◌<◌, length, replicate}
use Rattle.std.proofs.Common.{sym, ap, ap₂, ◌∙◌, not-suc-le-zero, arith, length-append}
use Rattle.spec.specs.Bytes.{Two}
use Rattle.spec.specs.Pool.{Node, Pool, node_at, join_runs}
use Rattle.spec.specs.Meaning.{here, Term, lit, node, variants, Runs, run, expand, runs_of, tree_of, trees_after, tree_at}
use Rattle.laws.specs.Bag.{map-append, map-replicate}
use Rattle.laws.specs.BagCount.{written, join_written}
use Rattle.pools.specs.Pool.{RunsBelow, runs-below-tail, Formed, operation, literal, marked, NodeValid, PoolValid, numbered, trees-keep, get_d-last, tree-operation, tree-literal, tree-marked}

-- ---- a node's tree depends on its children's alone
runs-cong : (ts us : List Term) (i : ℕ) (l : List Two) → RunsBelow i l → ((a : ℕ) → a < i → numbered ts a ≡ numbered us a) → runs_of ts l ≡ runs_of us l
unfolding runs_of
runs-cong ts us i [] b h = refl
runs-cong ts us i (r ∷ l) b h = ap₂ (λ (t : Term) (s : Runs). run t r.1 s) (h r.0 (b.earlier r here)) (runs-cong ts us i l (runs-below-tail b) h)

pub tree-cong : (ts us : List Term) (i : ℕ) (n : Node) → NodeValid i n → ((a : ℕ) → a < i → numbered ts a ≡ numbered us a) → tree_of ts n ≡ tree_of us n
tree-cong ts us i n v h = go v.formed
  where
    go : Formed n → tree_of ts n ≡ tree_of us n
    go (operation e z) = tree-operation ts n e ∙ ap (node n.op) (runs-cong ts us i n.runs v.below h) ∙ sym (tree-operation us n e)
    go (literal e z) = tree-literal ts n e ∙ sym (tree-literal us n e)
    go (marked e z u) = tree-marked ts n e ∙ ap variants (runs-cong ts us i n.runs v.below h) ∙ sym (tree-marked us n e)

trees-at : (ts : List Term) (p : Pool) (i k : ℕ) → k ≡ length ts + i → i < length p → ((j : ℕ) → j < length p → NodeValid (length ts + j) (node_at p j)) → numbered (trees_after ts p) k ≡ tree_of (trees_after ts p) (node_at p i)
unfolding trees_after
trees-at ts [] i k e h v = absurd (not-suc-le-zero h)
trees-at ts (n ∷ p) zero k e h v =
    let z : k ≡ length ts = omega arith in
    rw z (
    trees-keep (ts ++ (tree_of ts n ∷ [])) p (length ts) (lit 0 0) (omega (arith, length-append ts (tree_of ts n ∷ [])))
    ∙ get_d-last ts (tree_of ts n) (lit 0 0)
    ∙ tree-cong ts (trees_after ts (n ∷ p)) (length ts + 0) n (v 0 (omega arith)) (λ a l. sym (trees-keep ts (n ∷ p) a (lit 0 0) (omega arith)))
    )
trees-at ts (n ∷ p) (suc i) k e h v =
    let z : length (ts ++ (tree_of ts n ∷ [])) ≡ suc (length ts) = omega (arith, length-append ts (tree_of ts n ∷ [])) in
    trees-at (ts ++ (tree_of ts n ∷ [])) p i k (omega arith) (omega arith)
    (λ j l. let y : length ts + suc j ≡ length (ts ++ (tree_of ts n ∷ [])) + j = omega arith in rw (← y) (v (suc j) (omega arith)))

-- A number means its node over the trees of the pool.
pub tree_is : (p : Pool) → PoolValid p → (a : ℕ) → a < length p → tree_at p a ≡ tree_of (trees_after [] p) (node_at p a)
tree_is p v a h = trees-at [] p a a (omega arith) h (λ j l. let z : j ≡ length {A = Term} [] + j = omega arith in rw (← z) (v.nodes j l))

-- ---- the children of an operation's tree, written out
pub expand-runs : (ts : List Term) (l : List Two) → expand (runs_of ts l) ≡ map (numbered ts) (written l)
unfolding expand runs_of written
expand-runs ts [] = refl
expand-runs ts (r ∷ l) = rw (expand-runs ts l, map-append (numbered ts) (replicate r.1 r.0) (written l), map-replicate (numbered ts) r.1 r.0) refl

-- joining changes nothing of what is written out
pub expand-joined : (ts : List Term) (l : List Two) → expand (runs_of ts (join_runs l)) ≡ map (numbered ts) (written l)
expand-joined ts l = expand-runs ts (join_runs l) ∙ ap (map (numbered ts)) (join_written l)

pub node-ext : (x y : Node) → x.head ≡ y.head → x.op ≡ y.op → x.value ≡ y.value → x.runs ≡ y.runs → x ≡ y
node-ext x y a b c d =
    ap₂ (λ (h o : ℕ). record { head = h; op = o; value = x.value; runs = x.runs }) a b
    ∙ ap₂ (λ (v : ℕ) (l : List Two). record { head = y.head; op = y.op; value = v; runs = l }) c d

pub valid-below : (i j : ℕ) (n : Node) → i ≤ j → NodeValid i n → NodeValid j n
valid-below i j n h v = record { formed = v.formed; below = record { earlier = λ r k. let z = v.below.earlier r k in omega arith; counted = v.below.counted }; joined = v.joined }
