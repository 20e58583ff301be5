-- A card written from a pool within the limits is read back into an empty pool without 13: what is entered are terms of that pool, each once.
use Rattle.std.specs.Prelude.{◌≡◌, true, false, ltb, leb, length, get_or}
use Rattle.std.proofs.Math.Path.{refl, ap}
use Rattle.std.proofs.Common.{sym, ◌∙◌, inl, inr, arith, length-append, lt-ltb, le-leb}
use Rattle.std.proofs.Math.Bool.{Bool}
use mathlib.Core.List.{List, [], ◌∷◌, ◌++◌, map}
use Prim.Native.Nat.{ℕ, zero, suc, ◌+◌, ◌≤◌, ◌<◌}
use Rattle.std.proofs.Math.Nat.{not-suc-le-zero}
use Rattle.spec.specs.Bytes.{pick, both, place, sum, Limits, Two, Res, ok, refused, ◌>>=◌}
use Rattle.spec.specs.Pool.{Pool, Node, node_at, run_count, same_node, join_runs, op_node, lit_node, Interned, interned, Children, intern}
use Rattle.spec.specs.Meaning.{In, here, there, Term, Runs, tree_at, tree_of, trees_after, runs_of}
use Rattle.spec.specs.Meaning as Meaning
use Rattle.laws.specs.Bag.{sum-append, map-append}
use Rattle.laws.specs.Lists.{in-cons, in-nil, in-append, get_in, in-get, Distinct, none, more, pigeon}
use Rattle.pools.specs.Pool.{RunsBelow, runs-below-tail, lit-valid, Formed, operation, literal, marked, NodeValid, PoolValid, empty-valid, trees-append, trees-length, tree-operation, tree-literal, tree-marked}
use Rattle.pools.specs.PoolTrees.{tree_is}
use Rattle.pools.proofs.PoolTrees.{trees-apart}
use Rattle.pools.proofs.PoolIntern.{added}
use Rattle.formula.specs.Card.{Tree, Trees}
use Rattle.formula.specs.Lexer.{times, spelled, spelled_runs, card_tree, marked_node, enter, enter_all}
use Rattle.formula_laws.specs.Entering.{repeat, children, enter-children, enter-own, join-ones}
use Rattle.formula_laws.specs.Weights.{weighed}
use Rattle.formula_laws.specs.Elsewhere.{RunsEnter, agree-runs, agree-below, agree-joined, runs-enter, enter-below}

abbrev no_term : Term
no_term = Meaning.lit 0 0

-- ---- what a pool's terms are, and how many runs they have
abbrev trees : Pool → List Term
trees p = trees_after [] p

-- every term of q is one of p
abbrev pub Inside : Pool → Pool → Type 0
Inside q p = (a : Term) → In a (trees q) → In a (trees p)

unfoldable runs_in : Runs → ℕ
runs_in Meaning.done = 0
runs_in (Meaning.run a n r) = suc (runs_in r)

abbrev weight : Term → ℕ
weight (Meaning.lit o v) = 0
weight (Meaning.node o r) = runs_in r
weight (Meaning.variants r) = runs_in r

runs-in : (ts : List Term) (l : List Two) → runs_in (runs_of ts l) ≡ length l
unfolding runs_in runs_of
runs-in ts [] = refl
runs-in ts (r ∷ l) = ap suc (runs-in ts l)

-- no more than the node's runs, and as many where the node is formed
node-weight : (ts : List Term) (n : Node) → Formed n → weight (tree_of ts n) ≡ length n.runs
node-weight ts n (operation e z) = ap weight (tree-operation ts n e) ∙ runs-in ts n.runs
node-weight ts n (literal e z) = ap weight (tree-literal ts n e) ∙ sym (ap length z)
node-weight ts n (marked e y z) = ap weight (tree-marked ts n e) ∙ runs-in ts n.runs

abbrev AllFormed : Pool → Type 0
AllFormed p = (n : Node) → In n p → Formed n

weighs : (ts : List Term) (p : Pool) → AllFormed p → sum (map weight (trees_after ts p)) ≡ sum (map weight ts) + run_count p
unfolding trees_after run_count sum
weighs ts [] f = omega arith
weighs ts (n ∷ p) f =
    let e = weighs (ts ++ (tree_of ts n ∷ [])) p (λ m i. f m (there i)) in
    omega (arith, e, sum-append (map weight ts) (weight (tree_of ts n) ∷ []), ap sum (map-append weight ts (tree_of ts n ∷ [])), node-weight ts n (f n here))

pool-formed : (p : Pool) → PoolValid p → AllFormed p
pool-formed p v n i = let (k, h, e) = in-get _ n p i in rw (← e) (v.nodes k h).formed

pool-weighs : (p : Pool) → PoolValid p → sum (map weight (trees p)) ≡ run_count p
unfolding sum
pool-weighs p v = omega (arith, weighs [] p (pool-formed p v))

-- ---- the terms of a valid pool stand apart
apart_distinct : (l : List Term) → ((i j : ℕ) → i < length l → j < length l → get_or l i no_term ≡ get_or l j no_term → i ≡ j) → Distinct l
apart_distinct [] h = none
apart_distinct (x ∷ l) h =
    more (λ i. let (k, kl, e) = in-get no_term x l i in let z : 0 ≡ suc k = h 0 (suc k) (omega arith) (omega arith) (sym e) in omega (arith, z))
    (apart_distinct l (λ i j hi hj e. let z : suc i ≡ suc j = h (suc i) (suc j) (omega arith) (omega arith) e in omega (arith, z)))

trees-distinct : (p : Pool) → PoolValid p → Distinct (trees p)
trees-distinct p v = apart_distinct (trees p) (λ i j hi hj e. trees-apart p v i j (omega (arith, trees-length [] p)) (omega (arith, trees-length [] p)) e)

-- so a valid pool inside another has no more terms and no more runs
inside-terms : (q p : Pool) → PoolValid q → Inside q p → length q ≤ length p
inside-terms q p v i = omega (arith, pigeon (trees q) (trees p) (trees-distinct q v) i, trees-length [] q, trees-length [] p)

inside-runs : (q p : Pool) → PoolValid q → PoolValid p → Inside q p → run_count q ≤ run_count p
inside-runs q p v w i = omega (arith, weighed weight (trees q) (trees p) (trees-distinct q v) i, pool-weighs q v, pool-weighs p w)

-- ---- entering terms of a pool within the limits
module _ (lim : Limits) (p : Pool) (v : PoolValid p) (few : length p ≤ lim.terms) (few_runs : run_count p ≤ lim.runs) where
  -- what is entered, and the pool is inside p still
  pub record Fits (m : Res Interned) : Type 0 where
    pub result : Interned
    pub is : m ≡ ok result
    pub inside : Inside result.pool p

  intern-fits : (q : Pool) (n : Node) → PoolValid q → NodeValid (length q) n → Inside q p → In (tree_of (trees q) n) (trees p) → Fits (intern lim q n)
  unfolding intern trees_after run_count sum
  intern-fits q n w f i t = go (ltb (place (same_node n) q) (length q)) refl
    where
      R : Bool → Bool → Res Interned
      R a b = pick a (ok (interned q (place (same_node n) q))) (pick b (ok (interned (q ++ (n ∷ [])) (length q))) (refused 13))

      is : intern lim q n ≡ R (ltb (place (same_node n) q) (length q)) (both (ltb (length q) lim.terms) (leb (run_count q + length n.runs) lim.runs))
      is = refl

      more-inside : Inside (q ++ (n ∷ [])) p
      more-inside a j = elim (in-append (trees q) (rw (trees-append [] q (n ∷ [])) at j)) [ inl k ↦ i a k | inr k ↦ elim (in-cons k) [ inl e ↦ rw e t | inr z ↦ absurd (in-nil z) ] ]

      go : (a : Bool) → ltb (place (same_node n) q) (length q) ≡ a → Fits (intern lim q n)
      go true e = record { result = interned q (place (same_node n) q); is = is ∙ ap (λ a. R a (both (ltb (length q) lim.terms) (leb (run_count q + length n.runs) lim.runs))) e; inside = i }
      go false e =
          let A = added q n w f e in
          let l = inside-terms (q ++ (n ∷ [])) p A.valid more-inside in
          let r = inside-runs (q ++ (n ∷ [])) p A.valid v more-inside in
          let many = ap sum (map-append (λ (m : Node). length m.runs) q (n ∷ [])) ∙ sum-append (map (λ (m : Node). length m.runs) q) (length n.runs ∷ []) in
          let x = lt-ltb (length q) lim.terms (omega (arith, l, few, length-append q (n ∷ []))) in
          let y = le-leb (run_count q + length n.runs) lim.runs (omega (arith, r, few_runs, many)) in
          record { result = interned (q ++ (n ∷ [])) (length q); is = is ∙ ap (λ a. R a (both (ltb (length q) lim.terms) (leb (run_count q + length n.runs) lim.runs))) e ∙ rw (x, y) refl; inside = more-inside }

  -- a child so many times, the rest behind it
  times-fits : (n : ℕ) (q : Pool) (c : ℕ) (a : Tree) (k : Trees) (j : Children) → enter lim q a ≡ ok (interned q c) → enter_all lim q k ≡ ok j → enter_all lim q (times n a k) ≡ ok (children j.pool (repeat n c j.runs))
  unfolding enter_all times repeat
  times-fits zero q c a k j e f = f
  times-fits (suc n) q c a k j e f = rw (e, times-fits n q c a k j e f) refl

  record FitsAll (m : Res Children) : Type 0 where
    result : Children
    is : m ≡ ok result
    inside : Inside result.pool p

  abbrev Goes : ℕ → Type 0
  Goes i = (c : ℕ) → c < i → (q : Pool) → PoolValid q → Inside q p → Fits (enter lim q (card_tree p c))

  runs_fit : (l : List Two) (i : ℕ) → i ≤ length p → RunsBelow i l → Goes i → (q : Pool) → PoolValid q → Inside q p → FitsAll (enter_all lim q (spelled_runs (runs_of (trees p) l)))
  unfolding runs_of spelled_runs enter_all times
  runs_fit [] i h b ih q w f = record { result = record { pool = q; runs = [] }; is = refl; inside = f }
  runs_fit ((c, zero) ∷ l) i h b ih q w f = absurd (let z : 1 ≤ 0 = b.counted (c, zero) here in not-suc-le-zero z)
  runs_fit ((c, suc m) ∷ l) i h b ih q w f =
      let k = b.earlier (c, suc m) here in
      let X = ih c k q w f in
      let x = X.result in
      let E = enter-below lim p v (suc c) c (omega arith) (omega (arith, k)) q x w X.is in
      let own : enter lim x.pool (card_tree p c) ≡ ok (interned x.pool x.term) = ap (λ z. enter lim x.pool (spelled z)) (sym E.means) ∙ enter-own lim x.pool E.valid x.term E.within in
      let J = runs_fit l i h (runs-below-tail b) ih x.pool E.valid X.inside in
      let t = times-fits m x.pool x.term (card_tree p c) (spelled_runs (runs_of (trees p) l)) J.result own J.is in
      record { result = children J.result.pool ((x.term, 1) ∷ repeat m x.term J.result.runs); is = rw (X.is, t) refl; inside = J.inside }

  -- the children of a node entered, what is agreed on
  kids : (a : ℕ) → a < length p → (q : Pool) (k : Children) → PoolValid q → enter_all lim q (spelled_runs (runs_of (trees p) (node_at p a).runs)) ≡ ok k → RunsEnter p q (node_at p a).runs k
  kids a h q k w e = runs-enter lim p v (node_at p a).runs a (v.nodes a h).below (λ c l q r w e. enter-below lim p v (suc c) c (omega arith) (omega (arith, l)) q r w e) q k w e

  -- their runs joined are the node's
  joined-runs : (a : ℕ) → a < length p → (q : Pool) (k : Children) → RunsEnter p q (node_at p a).runs k → (n : Node) → n.runs ≡ join_runs k.runs → Formed n → NodeValid (length k.pool) n × (runs_of (trees k.pool) n.runs ≡ runs_of (trees p) (node_at p a).runs)
  joined-runs a h q k u n e f =
      let j = agree-joined a v (omega arith) u.agree (v.nodes a h).below (v.nodes a h).joined in
      let b = agree-below a u.agree (v.nodes a h).below in
      let same : join_runs k.runs ≡ u.list = ap join_runs u.is ∙ join-ones (length k.pool) u.list j b in
      (record { formed = f; below = rw (e, same) b; joined = rw (e, same) j }, ap (runs_of (trees k.pool)) (e ∙ same) ∙ agree-runs u.agree)

  node-fits : (a : ℕ) → a < length p → Goes a → (q : Pool) → PoolValid q → Inside q p → Fits (enter lim q (card_tree p a))
  unfolding spelled enter
  node-fits a h ih q w i = go (v.nodes a h).formed
    where
      n : Node
      n = node_at p a

      tree : tree_at p a ≡ tree_of (trees p) n
      tree = tree_is p v a h

      there-it-is : In (tree_of (trees p) n) (trees p)
      there-it-is = rw (← tree) (get_in no_term (trees p) a (omega (arith, trees-length [] p)))

      K : FitsAll (enter_all lim q (spelled_runs (runs_of (trees p) n.runs)))
      K = runs_fit n.runs a (omega arith) (v.nodes a h).below ih q w i

      k : Children
      k = K.result

      U : RunsEnter p q n.runs k
      U = kids a h q k w K.is

      go : Formed n → Fits (enter lim q (card_tree p a))
      go (literal e z) =
          let same : tree_of (trees q) (lit_node n.op n.value) ≡ tree_of (trees p) n = tree-literal (trees q) (lit_node n.op n.value) refl ∙ sym (tree-literal (trees p) n e) in
          let F = intern-fits q (lit_node n.op n.value) w (lit-valid (length q) n.op n.value) i (rw same there-it-is) in
          record { result = F.result; is = ap (λ z. enter lim q (spelled z)) (tree ∙ tree-literal (trees p) n e) ∙ F.is; inside = F.inside }
      go (operation e z) =
          let (y, g) = joined-runs a h q k U (op_node n.op k.runs) refl (operation refl refl) in
          let same : tree_of (trees k.pool) (op_node n.op k.runs) ≡ tree_of (trees p) n = tree-operation (trees k.pool) (op_node n.op k.runs) refl ∙ ap (Meaning.node n.op) g ∙ sym (tree-operation (trees p) n e) in
          let F = intern-fits k.pool (op_node n.op k.runs) U.valid y K.inside (rw same there-it-is) in
          record { result = F.result; is = ap (λ z. enter lim q (spelled z)) (tree ∙ tree-operation (trees p) n e) ∙ enter-children lim q n.op (spelled_runs (runs_of (trees p) n.runs)) ∙ ap (λ (m : Res Children). m >>= λ k. intern lim k.pool (op_node n.op k.runs)) K.is ∙ F.is; inside = F.inside }
      go (marked e y z) =
          let (y, g) = joined-runs a h q k U (marked_node k.runs) refl (marked refl refl refl) in
          let same : tree_of (trees k.pool) (marked_node k.runs) ≡ tree_of (trees p) n = tree-marked (trees k.pool) (marked_node k.runs) refl ∙ ap Meaning.variants g ∙ sym (tree-marked (trees p) n e) in
          let F = intern-fits k.pool (marked_node k.runs) U.valid y K.inside (rw same there-it-is) in
          record { result = F.result; is = ap (λ z. enter lim q (spelled z)) (tree ∙ tree-marked (trees p) n e) ∙ ap (λ (m : Res Children). m >>= λ k. intern lim k.pool (marked_node k.runs)) K.is ∙ F.is; inside = F.inside }

  below-fits : (f a : ℕ) → a < f → a < length p → (q : Pool) → PoolValid q → Inside q p → Fits (enter lim q (card_tree p a))
  below-fits zero a k h = absurd (not-suc-le-zero k)
  below-fits (suc f) a k h = node-fits a h (λ c l. below-fits f c (omega arith) (omega arith))

  -- a term of p is entered into a pool inside p, and into an empty one
  pub enter-fits : (a : ℕ) → a < length p → (q : Pool) → PoolValid q → Inside q p → Fits (enter lim q (card_tree p a))
  enter-fits a h = below-fits (suc a) a (omega arith) h

  pub enter-empty : (a : ℕ) → a < length p → Fits (enter lim [] (card_tree p a))
  unfolding trees_after
  enter-empty a h = enter-fits a h [] empty-valid (λ b i. absurd (in-nil i))
