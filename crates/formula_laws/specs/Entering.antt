-- A term read back into its own pool is the term itself; into any other pool, a number of the same term.
use Rattle.std.specs.Prelude.{◌≡◌, refl, ◌≢◌, Bool, true, false, List, [], ◌∷◌, ◌++◌, ℕ, zero, suc, ◌+◌, ◌≤◌, ◌<◌, leb, length, replicate}
use Rattle.std.proofs.Common.{sym, ◌∙◌, not-suc-le-zero, arith, eq-eqb, ne_eqb, length-append}
use Rattle.std.proofs.Math.Path.{ap}
use Rattle.std.proofs.lemmas.List.{length-replicate}
use Rattle.spec.specs.Bytes.{all, Limits, Two, Res, ok, refused, rule, ◌>>=◌}
use Rattle.spec.specs.Pool.{Pool, Node, node_at, OP, LIT, VARIANTS, join_to, join_runs, op_node, lit_node, Interned, interned, intern, Children}
use Rattle.spec.specs.Meaning.{In, here, there, Term, Runs, expand, Branched, AllBranched, tree_at, tree_of, trees_after, runs_of}
use Rattle.spec.specs.Meaning as Meaning
use Rattle.pools.specs.Pool.{Joined, RunsBelow, runs-below-tail, runs-below-cons, runs-below-nil, Formed, operation, literal, marked, NodeValid, PoolValid, numbered, tree-operation, tree-literal, tree-marked, op-valid, lit-valid, variants-valid, join-joined}
use Rattle.pools.specs.Pool as P
use Rattle.pools.specs.PoolTrees.{node-ext, tree_is}
use Rattle.pools.proofs.PoolIntern.{intern-there}
use Rattle.laws.specs.Results.{ok-inj, refused-ok}
use Rattle.formula.specs.Card.{Tree, Trees, none, also, count, branches, spell, proper_mark, write}
use Rattle.formula.specs.Lexer.{times, of_children, spelled, spelled_runs, card_tree, write_card, marked_node, enter, enter_all, read_text, read_card}
use Rattle.formula_laws.specs.Fewest.{Shaped, lit-shaped, two_shaped, many-shaped, marked-shaped, ShapedAll, none-shaped, also-shaped}
use Rattle.formula_laws.specs.Texts.{text-read, card-text}

-- ---- a term's tree has no list of two
children-shaped : (o : ℕ) (l : Trees) → ShapedAll l → Shaped (of_children o l)
unfolding count
children-shaped o none h = many-shaped (λ e. let z : ◌≡◌ {A = ℕ} 0 2 = e in omega arith) h
children-shaped o (also a none) h = many-shaped (λ e. let z : ◌≡◌ {A = ℕ} 1 2 = e in omega arith) h
children-shaped o (also a (also b none)) (also-shaped x (also-shaped y z)) = two_shaped x y
children-shaped o (also a (also b (also c l))) h = many-shaped (λ e. let z : suc (suc (suc (count l))) ≡ 2 = e in omega arith) h

times-shaped : (n : ℕ) (a : Tree) (l : Trees) → Shaped a → ShapedAll l → ShapedAll (times n a l)
unfolding times
times-shaped zero a l x y = y
times-shaped (suc n) a l x y = also-shaped x (times-shaped n a l x y)

-- as many trees as there are children, written out
times-count : (n : ℕ) (a : Tree) (l : Trees) → count (times n a l) ≡ n + count l
unfolding times count
times-count zero a l = omega arith
times-count (suc n) a l = let e = times-count n a l in omega (arith, e)

runs-count : (r : Runs) → count (spelled_runs r) ≡ length (expand r)
unfolding spelled_runs expand count
runs-count Meaning.done = refl
runs-count (Meaning.run a n r) = times-count n (spelled a) (spelled_runs r) ∙ omega (arith, runs-count r, length-append (replicate n a) (expand r), length-replicate n a)

branched-right : {n : ℕ} (l m : List Term) → AllBranched n (l ++ m) → AllBranched n m
branched-right [] m h = h
branched-right (x ∷ l) m (Meaning.and_branch a h) = branched-right l m h

branched-first : {n : ℕ} (k : ℕ) (a : Term) (m : List Term) → AllBranched n (replicate (suc k) a ++ m) → Branched n a
branched-first k a m (Meaning.and_branch x h) = x

-- a term whose marked places have two branches each
mutual
  unfolding spelled count expand

  pub spelled-shaped : (a : Term) → Branched 2 a → Shaped (spelled a)
  spelled-shaped (Meaning.lit o v) b = lit-shaped
  spelled-shaped (Meaning.node o r) (Meaning.at_node h) = children-shaped o (spelled_runs r) (runs-shaped r h)
  spelled-shaped (Meaning.variants r) (Meaning.at_place e h) = marked-shaped (ap branches (runs-count r ∙ e)) (runs-shaped r h)

  runs-shaped : (r : Runs) → AllBranched 2 (expand r) → ShapedAll (spelled_runs r)
  runs-shaped Meaning.done h = none-shaped
  runs-shaped (Meaning.run a zero r) h = runs-shaped r h
  runs-shaped (Meaning.run a (suc n) r) h = times-shaped (suc n) (spelled a) (spelled_runs r) (spelled-shaped a (branched-first n a (expand r) h)) (runs-shaped r (branched-right (replicate (suc n) a) (expand r) h))

-- ---- runs written out, one by one
unfoldable pub repeat : ℕ → ℕ → List Two → List Two
repeat zero c l = l
repeat (suc n) c l = (c, 1) ∷ repeat n c l

unfoldable pub ones : List Two → List Two
unfolding repeat
ones [] = []
ones (r ∷ l) = repeat r.1 r.0 (ones l)

abbrev pub Off : ℕ → List Two → Type 0
Off c [] = Unit
Off c (s ∷ l) = c ≢ s.0

join-off : (c n : ℕ) (l : List Two) → Off c l → join_to (c, n) l ≡ (c, n) ∷ l
join-off c n [] h = refl
join-off c n (s ∷ l) h = rw (ne_eqb c s.0 h) refl

join-repeat : (n c : ℕ) (l : List Two) → Off c (join_runs l) → join_runs (repeat (suc n) c l) ≡ (c, suc n) ∷ join_runs l
unfolding repeat join_runs
join-repeat zero c l h = join-off c 1 (join_runs l) h
join-repeat (suc n) c l h =
    let z : 1 + suc n ≡ suc (suc n) = omega arith in
    ap (join_to (c, 1)) (join-repeat n c l h) ∙ (rw (eq-eqb c c refl, z) refl)

pub joined-off : (r : Two) (l : List Two) → Joined (r ∷ l) → Off r.0 l
joined-off r [] j = tt
joined-off r (s ∷ l) (P.more h j) = h

pub joined-tail : (r : Two) (l : List Two) → Joined (r ∷ l) → Joined l
joined-tail r [] j = P.none
joined-tail r (s ∷ l) (P.more h j) = j

-- joining them again gives the runs
pub join-ones : (i : ℕ) (l : List Two) → Joined l → RunsBelow i l → join_runs (ones l) ≡ l
unfolding ones join_runs
join-ones i [] j b = refl
join-ones i ((c, zero) ∷ l) j b = absurd (let z : 1 ≤ 0 = b.counted (c, zero) here in not-suc-le-zero z)
join-ones i ((c, suc n) ∷ l) j b =
    let e = join-ones i l (joined-tail (c, suc n) l j) (runs-below-tail b) in
    join-repeat n c (ones l) (rw e (joined-off (c, suc n) l j)) ∙ ap (λ (z : List Two). (c, suc n) ∷ z) e

-- ---- entering children
abbrev pub children : Pool → List Two → Children
children p l = record { pool = p; runs = l }

enter-times : (lim : Limits) (n : ℕ) (p : Pool) (c : ℕ) (a : Tree) (k : Trees) (l : List Two) → enter lim p a ≡ ok (interned p c) → enter_all lim p k ≡ ok (children p l) → enter_all lim p (times n a k) ≡ ok (children p (repeat n c l))
unfolding enter_all times repeat
enter-times lim zero p c a k l e f = f
enter-times lim (suc n) p c a k l e f = rw (e, enter-times lim n p c a k l e f) refl

-- an operation's children, two or not
pub enter-children : (lim : Limits) (p : Pool) (o : ℕ) (l : Trees) → enter lim p (of_children o l) ≡ (enter_all lim p l >>= λ k. intern lim k.pool (op_node o k.runs))
unfolding enter enter_all
enter-children lim p o none = refl
enter-children lim p o (also a none) = refl
enter-children lim p o (also a (also b (also c l))) = refl
enter-children lim p o (also a (also b none)) = first (enter lim p a)
  where
    second : (x : Interned) (m : Res Interned) → (m >>= λ y. intern lim y.pool (op_node o ((x.term, 1) ∷ (y.term, 1) ∷ [])))
        ≡ ((m >>= λ y. ok (children y.pool ((y.term, 1) ∷ []))) >>= λ k. ok (children k.pool ((x.term, 1) ∷ k.runs))) >>= λ k. intern lim k.pool (op_node o k.runs)
    second x (ok y) = refl
    second x (refused n) = refl

    first : (m : Res Interned) → (m >>= λ x. enter lim x.pool b >>= λ y. intern lim y.pool (op_node o ((x.term, 1) ∷ (y.term, 1) ∷ [])))
        ≡ ((m >>= λ x. (enter lim x.pool b >>= λ y. ok (children y.pool ((y.term, 1) ∷ []))) >>= λ k. ok (children k.pool ((x.term, 1) ∷ k.runs))) >>= λ k. intern lim k.pool (op_node o k.runs))
    first (ok x) = second x (enter lim x.pool b)
    first (refused n) = refl

-- the children of a node, each entered as itself
enter-runs : (lim : Limits) (p : Pool) (l : List Two) → ((r : Two) → In r l → enter lim p (spelled (numbered (trees_after [] p) r.0)) ≡ ok (interned p r.0))
    → enter_all lim p (spelled_runs (runs_of (trees_after [] p) l)) ≡ ok (children p (ones l))
unfolding spelled_runs runs_of ones enter_all
enter-runs lim p [] h = refl
enter-runs lim p (r ∷ l) h = enter-times lim r.1 p r.0 _ _ (ones l) (h r here) (enter-runs lim p l (λ s i. h s (there i)))

-- A term of the pool is entered as itself.
module _ (lim : Limits) (p : Pool) (v : PoolValid p) where
  enter-node : (a : ℕ) → a < length p → ((c : ℕ) → c < a → enter lim p (card_tree p c) ≡ ok (interned p c)) → enter lim p (card_tree p a) ≡ ok (interned p a)
  unfolding spelled enter
  enter-node a h ih = ap (λ z. enter lim p (spelled z)) (tree_is p v a h) ∙ go w.formed
    where
      n : Node
      n = node_at p a

      w : NodeValid a n
      w = v.nodes a h

      ts : List Term
      ts = trees_after [] p

      lits : n.head ≡ LIT → n.runs ≡ [] → enter lim p (spelled (tree_of ts n)) ≡ ok (interned p a)
      lits e z = ap (λ y. enter lim p (spelled y)) (tree-literal ts n e) ∙ intern-there lim p (lit_node n.op n.value) a v h (node-ext n (lit_node n.op n.value) e refl refl z)

      ops : n.head ≡ OP → n.value ≡ 0 → enter lim p (spelled (tree_of ts n)) ≡ ok (interned p a)
      ops e z =
          ap (λ y. enter lim p (spelled y)) (tree-operation ts n e)
          ∙ enter-children lim p n.op (spelled_runs (runs_of ts n.runs))
          ∙ ap (λ (m : Res Children). m >>= λ k. intern lim k.pool (op_node n.op k.runs)) (enter-runs lim p n.runs (λ r i. ih r.0 (w.below.earlier r i)))
          ∙ intern-there lim p (op_node n.op (ones n.runs)) a v h (node-ext n (op_node n.op (ones n.runs)) e refl z (sym (join-ones a n.runs w.joined w.below)))

      marks : n.head ≡ VARIANTS → n.op ≡ 0 → n.value ≡ 0 → enter lim p (spelled (tree_of ts n)) ≡ ok (interned p a)
      marks e y z =
          ap (λ y. enter lim p (spelled y)) (tree-marked ts n e)
          ∙ ap (λ (m : Res Children). m >>= λ k. intern lim k.pool (marked_node k.runs)) (enter-runs lim p n.runs (λ r i. ih r.0 (w.below.earlier r i)))
          ∙ intern-there lim p (marked_node (ones n.runs)) a v h (node-ext n (marked_node (ones n.runs)) e y z (sym (join-ones a n.runs w.joined w.below)))

      go : Formed n → enter lim p (spelled (tree_of ts n)) ≡ ok (interned p a)
      go (operation e z) = ops e z
      go (literal e z) = lits e z
      go (marked e y z) = marks e y z

  enter-below : (f a : ℕ) → a < f → a < length p → enter lim p (card_tree p a) ≡ ok (interned p a)
  enter-below zero a k h = absurd (not-suc-le-zero k)
  enter-below (suc f) a k h = enter-node a h (λ c l. enter-below f c (omega arith) (omega arith))

  pub enter-own : (a : ℕ) → a < length p → enter lim p (card_tree p a) ≡ ok (interned p a)
  enter-own a h = enter-below (suc a) a (omega arith) h

-- ---- writing: what a written card is
pub written_is : (t : List ℕ) (p : Pool) (a n : ℕ) (s : List ℕ) → write_card t p a n ≡ ok s → (all (proper_mark t) (write t 0 (card_tree p a)) ≡ true) × (s ≡ spell t (write t 0 (card_tree p a)))
unfolding write_card
written_is t p a n s e = go (all (proper_mark t) (write t 0 (card_tree p a))) refl (leb (length (spell t (write t 0 (card_tree p a)))) n) e
  where
    go : (b : Bool) → all (proper_mark t) (write t 0 (card_tree p a)) ≡ b → (c : Bool) → (rule 18 b >>= λ x. rule 14 c >>= λ y. ok (spell t (write t 0 (card_tree p a)))) ≡ ok s
        → (all (proper_mark t) (write t 0 (card_tree p a)) ≡ true) × (s ≡ spell t (write t 0 (card_tree p a)))
    go true h true e = (h, sym (ok-inj e))
    go true h false e = absurd (refused-ok e)
    go false h c e = absurd (refused-ok e)

-- "Reading a written card yields the same term": into the pool that it was written from, its number, and the pool as it is.
pub card-back : (lim : Limits) (t : List ℕ) (p : Pool) (a n : ℕ) (s : List ℕ) → PoolValid p → a < length p → Branched 2 (tree_at p a) → write_card t p a n ≡ ok s → read_card lim t p s ≡ ok (interned p a)
unfolding read_card
card-back lim t p a n s v h b e =
    let (x, y) = written_is t p a n s e in
    ap (λ z. read_text t z >>= enter lim p) y ∙ ap (λ (z : Res Tree). z >>= enter lim p) (text-read t _ (card_tree p a) (card-text t (card_tree p a) (spelled-shaped (tree_at p a) b) x)) ∙ enter-own lim p v a h
