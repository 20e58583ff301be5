-- The pool: what keeps its entries in order, and what its numbers mean as trees.
use Rattle.std.specs.Prelude.{◌≡◌, refl, ◌≢◌, Bool, true, false, List, [], ◌∷◌, ◌++◌, ℕ, ◌+◌, ◌≤◌, ◌<◌, eqb, length, get_or}
use Rattle.std.proofs.Common.{sym, ◌∙◌, inl, inr, not-suc-le-zero, arith, eqb-true, length-append}
use Rattle.std.proofs.lemmas.Bool.{eqb-false}
use Rattle.std.proofs.Math.ListN.{get_or-append}
use Rattle.spec.specs.Bytes.{pick, Two}
use Rattle.spec.specs.Pool.{Node, Pool, node_at, OP, LIT, VARIANTS, join_to, join_runs, op_node, lit_node, variants_node}
use Rattle.spec.specs.Meaning.{In, here, there, Term, lit, node, variants, runs_of, tree_of, trees_after, tree_at}
use Rattle.laws.specs.Lists.{in-cons, in-nil}

-- ---- "runs of (child, count), neighbours with the same child joined"
pub data Joined : List Two → Type 0 where
  none : Joined []
  one : {r : Two} → Joined (r ∷ [])
  more : {r s : Two} {l : List Two} → r.0 ≢ s.0 → Joined (s ∷ l) → Joined (r ∷ s ∷ l)

-- every run names a number below i, so many times and at least once
pub record RunsBelow (i : ℕ) (l : List Two) : Type 0 where
  pub earlier : (r : Two) → In r l → r.0 < i
  pub counted : (r : Two) → In r l → 1 ≤ r.1

-- the three forms of an entry; what a form does not use is zero
pub data Formed (n : Node) : Type 0 where
  operation : n.head ≡ OP → n.value ≡ 0 → Formed n
  literal : n.head ≡ LIT → n.runs ≡ [] → Formed n
  marked : n.head ≡ VARIANTS → n.op ≡ 0 → n.value ≡ 0 → Formed n

-- an entry over entries before number i
pub record NodeValid (i : ℕ) (n : Node) : Type 0 where
  pub formed : Formed n
  pub below : RunsBelow i n.runs
  pub joined : Joined n.runs

-- the pool: terms, each over earlier ones, no two alike
pub record PoolValid (p : Pool) : Type 0 where
  pub nodes : (i : ℕ) → i < length p → NodeValid i (node_at p i)
  pub apart : (i j : ℕ) → i < length p → j < length p → node_at p i ≡ node_at p j → i ≡ j

pub empty-valid : PoolValid []
empty-valid = record { nodes = λ i h. absurd (not-suc-le-zero h); apart = λ i j h k e. absurd (not-suc-le-zero h) }

-- ---- joining keeps runs below and joins them
join_to-below : (i : ℕ) (r : Two) (l : List Two) → r.0 < i → 1 ≤ r.1 → RunsBelow i l → RunsBelow i (join_to r l)
join_to-below i r [] h k b = record { earlier = λ s j. elim (in-cons j) [ inl e ↦ rw e h | inr z ↦ absurd (in-nil z) ]; counted = λ s j. elim (in-cons j) [ inl e ↦ rw e k | inr z ↦ absurd (in-nil z) ] }
join_to-below i r (s ∷ l) h k b = go (eqb r.0 s.0)
  where
    go : (t : Bool) → RunsBelow i (pick t ((r.0, r.1 + s.1) ∷ l) (r ∷ s ∷ l))
    go true = record {
      earlier = λ z j. elim (in-cons j) [ inl e ↦ rw e h | inr y ↦ b.earlier z (there y) ];
      counted = λ z j. elim (in-cons j) [ inl e ↦ rw e (omega arith) | inr y ↦ b.counted z (there y) ];
    }
    go false = record {
      earlier = λ z j. elim (in-cons j) [ inl e ↦ rw e h | inr y ↦ b.earlier z y ];
      counted = λ z j. elim (in-cons j) [ inl e ↦ rw e k | inr y ↦ b.counted z y ];
    }

pub runs-below-tail : {i : ℕ} {r : Two} {l : List Two} → RunsBelow i (r ∷ l) → RunsBelow i l
runs-below-tail b = record { earlier = λ s j. b.earlier s (there j); counted = λ s j. b.counted s (there j) }

pub runs-below-cons : {i : ℕ} {r : Two} {l : List Two} → r.0 < i → 1 ≤ r.1 → RunsBelow i l → RunsBelow i (r ∷ l)
runs-below-cons h k b = record {
  earlier = λ z j. elim (in-cons j) [ inl e ↦ rw e h | inr y ↦ b.earlier z y ];
  counted = λ z j. elim (in-cons j) [ inl e ↦ rw e k | inr y ↦ b.counted z y ];
}

pub runs-below-nil : (i : ℕ) → RunsBelow i []
runs-below-nil i = record { earlier = λ r j. absurd (in-nil j); counted = λ r j. absurd (in-nil j) }

pub join-below : (i : ℕ) (l : List Two) → RunsBelow i l → RunsBelow i (join_runs l)
unfolding join_runs
join-below i [] b = b
join-below i (r ∷ l) b = join_to-below i r (join_runs l) (b.earlier r here) (b.counted r here) (join-below i l (runs-below-tail b))

pub joined-tail : {r : Two} {l : List Two} → Joined (r ∷ l) → Joined l
joined-tail one = none
joined-tail (more h j) = j

-- the first run may have another count
joined-head : (r s : Two) (l : List Two) → r.0 ≡ s.0 → Joined (s ∷ l) → Joined (r ∷ l)
joined-head r s [] e j = one
joined-head r s (z ∷ l) e (more h j) = more (λ q. h (sym e ∙ q)) j

join_to-joined : (r : Two) (l : List Two) → Joined l → Joined (join_to r l)
join_to-joined r [] j = one
join_to-joined r (s ∷ l) j = go (eqb r.0 s.0) refl
  where
    go : (t : Bool) → eqb r.0 s.0 ≡ t → Joined (pick t ((r.0, r.1 + s.1) ∷ l) (r ∷ s ∷ l))
    go true e = joined-head (r.0, r.1 + s.1) s l (eqb-true r.0 s.0 e) j
    go false e = more (eqb-false r.0 s.0 e) j

pub join-joined : (l : List Two) → Joined (join_runs l)
unfolding join_runs
join-joined [] = none
join-joined (r ∷ l) = join_to-joined r (join_runs l) (join-joined l)

-- ---- the nodes that the steps enter
pub op-valid : (i o : ℕ) (l : List Two) → RunsBelow i l → NodeValid i (op_node o l)
op-valid i o l b = record { formed = operation refl refl; below = join-below i l b; joined = join-joined l }

pub lit-valid : (i o v : ℕ) → NodeValid i (lit_node o v)
lit-valid i o v = record { formed = literal refl refl; below = runs-below-nil i; joined = none }

pub variants-valid : (i a b : ℕ) → a < i → b < i → NodeValid i (variants_node a b)
variants-valid i a b h k = record {
  formed = marked refl refl refl;
  below = join-below i ((a, 1) ∷ (b, 1) ∷ []) (runs-below-cons h (omega arith) (runs-below-cons k (omega arith) (runs-below-nil i)));
  joined = join-joined ((a, 1) ∷ (b, 1) ∷ []);
}

-- ---- trees
pub trees-append : (ts : List Term) (p q : Pool) → trees_after ts (p ++ q) ≡ trees_after (trees_after ts p) q
unfolding trees_after
trees-append ts [] q = refl
trees-append ts (n ∷ p) q = trees-append (ts ++ (tree_of ts n ∷ [])) p q

pub trees-length : (ts : List Term) (p : Pool) → length (trees_after ts p) ≡ length ts + length p
unfolding trees_after
trees-length ts [] = omega arith
trees-length ts (n ∷ p) = omega (arith, trees-length (ts ++ (tree_of ts n ∷ [])) p, length-append ts (tree_of ts n ∷ []))

pub trees-keep : (ts : List Term) (p : Pool) (a : ℕ) (d : Term) → a < length ts → get_or (trees_after ts p) a d ≡ get_or ts a d
unfolding trees_after
trees-keep ts [] a d h = refl
trees-keep ts (n ∷ p) a d h =
    trees-keep (ts ++ (tree_of ts n ∷ [])) p a d (omega (arith, length-append ts (tree_of ts n ∷ []))) ∙ get_or-append ts (tree_of ts n ∷ []) d a h

-- The tree of a number does not change when the pool grows.
pub tree-grows : (p q : Pool) (a : ℕ) → a < length p → tree_at (p ++ q) a ≡ tree_at p a
unfolding trees_after
tree-grows p q a h = rw (trees-append [] p q) (trees-keep (trees_after [] p) q a (lit 0 0) (omega (arith, trees-length [] p)))

pub get_d-last : {A : Type 0} (l : List A) (x d : A) → get_or (l ++ (x ∷ [])) (length l) d ≡ x
get_d-last [] x d = refl
get_d-last (y ∷ l) x d = get_d-last l x d

-- what is entered last means the tree of its node
pub tree-last : (p : Pool) (n : Node) → tree_at (p ++ (n ∷ [])) (length p) ≡ tree_of (trees_after [] p) n
unfolding trees_after
tree-last p n = let e : length p ≡ length (trees_after [] p) = omega (arith, trees-length [] p) in rw (trees-append [] p (n ∷ []), e) (get_d-last (trees_after [] p) (tree_of (trees_after [] p) n) (lit 0 0))

-- a node's tree, by its form
abbrev pub numbered : List Term → ℕ → Term
numbered ts a = get_or ts a (lit 0 0)

pub tree-operation : (ts : List Term) (n : Node) → n.head ≡ OP → tree_of ts n ≡ node n.op (runs_of ts n.runs)
unfolding tree_of
tree-operation ts n e = rw e refl

pub tree-literal : (ts : List Term) (n : Node) → n.head ≡ LIT → tree_of ts n ≡ lit n.op n.value
unfolding tree_of
tree-literal ts n e = rw e refl

pub tree-marked : (ts : List Term) (n : Node) → n.head ≡ VARIANTS → tree_of ts n ≡ variants (runs_of ts n.runs)
unfolding tree_of
tree-marked ts n e = rw e refl
