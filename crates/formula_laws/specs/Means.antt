-- What is read means the text's term: the number that a tree is entered with stands for that tree.
use Rattle.std.specs.Prelude.{◌≡◌, ◌≢◌, ℕ, ◌<◌, length}
use Rattle.std.proofs.Math.Path.{refl, ap}
use Rattle.std.proofs.Common.{ap₂, ◌∙◌, inl, inr, arith}
use mathlib.Core.List.{List, [], ◌∷◌}
use Rattle.spec.specs.Bytes.{Limits, Two, ok}
use Rattle.spec.specs.Pool.{Pool, Interned, Children, intern, op_node, lit_node, join_runs}
use Rattle.spec.specs.Meaning.{In, trees_after, runs_of}
use Rattle.spec.specs.Monomial.{classes}
use Rattle.laws.specs.Lists.{in-cons, in-nil}
use Rattle.laws.specs.Results.{bind_ok, ok-inj}
use Rattle.laws.specs.BagCount.{join_written, written-ones}
use Rattle.pools.specs.Pool.{RunsBelow, runs-below-cons, runs-below-nil, NodeValid, PoolValid, marked, join-below, join-joined, op-valid, lit-valid, tree-operation, tree-literal, tree-marked}
use Rattle.pools.specs.PoolIntern.{Extends, extends-refl, extends-trans, extends-tree, extends-within}
use Rattle.pools.proofs.PoolIntern.{intern-enters}
use Rattle.formula.specs.Card.{Tree, lit, two, many, Trees, none, also, count, branches, Formula, aLiteral, aTwo, aList, aChoice, brackets, Items, nothing, single, more, FormulaText, next, or, Mark}
use Rattle.formula.specs.Card as C
use Rattle.formula.specs.Lexer.{of_children, spelled, spelled_runs, card_tree, marked_node, enter, enter_all, read_text, read_card}
use Rattle.formula_laws.specs.Fewest.{Shaped, lit-shaped, two_shaped, many-shaped, marked-shaped, ShapedAll, none-shaped, also-shaped}
use Rattle.formula_laws.specs.Terms.{trees_of, runs-trees}
use Rattle.formula_laws.specs.Texts.{read-text}

-- ---- the term of a formula: no list of two, two branches at every marked place
mutual
  pub formula-shaped : {t : List ℕ} {m : ℕ} {s : List Mark} {a : Tree} → Formula t m s a → Shaped a
  formula-shaped (aLiteral e) = lit-shaped
  formula-shaped (aTwo l r h f g e) = two_shaped (formula-shaped f) (formula-shaped g)
  formula-shaped (aList r n i e) = many-shaped n (items-shaped i)
  formula-shaped (aChoice r n i e) = marked-shaped n (items-shaped i)
  formula-shaped (brackets r f e) = formula-shaped f

  items-shaped : {t : List ℕ} {sep : Mark} {s : List Mark} {l : Trees} → Items t sep s l → ShapedAll l
  items-shaped (nothing e) = none-shaped
  items-shaped (single f) = also-shaped (formula-shaped f) none-shaped
  items-shaped (more q r f i e) = also-shaped (formula-shaped f) (items-shaped i)

-- ---- entering
pub record Entered (q : Pool) (a : Tree) (r : Interned) : Type 0 where
  pub valid : PoolValid r.pool
  pub grown : Extends q r.pool
  pub within : r.term < length r.pool
  pub means : card_tree r.pool r.term ≡ a

-- children: each once
record AllEntered (q : Pool) (l : Trees) (k : Children) : Type 0 where
  valid : PoolValid k.pool
  grown : Extends q k.pool
  below : RunsBelow (length k.pool) k.runs
  ones : (r : Two) → In r k.runs → r.1 ≡ 1
  mean : trees_of k.pool (classes k.runs) ≡ l

-- the children of a node over them, joined and written out
kids-are : (q : Pool) (l : Trees) (k : Children) → AllEntered q l k → spelled_runs (runs_of (trees_after [] k.pool) (join_runs k.runs)) ≡ l
kids-are q l k u = runs-trees k.pool (join_runs k.runs) ∙ ap (trees_of k.pool) (join_written k.runs ∙ written-ones k.runs u.ones) ∙ u.mean

one_more : {q : Pool} (a : Tree) (l : Trees) (x : Interned) (k : Children) → Entered q a x → AllEntered x.pool l k → AllEntered q (also a l) (record { pool = k.pool; runs = (x.term, 1) ∷ k.runs })
unfolding trees_of
one_more a l x k s t = record {
  valid = t.valid;
  grown = extends-trans s.grown t.grown;
  below = runs-below-cons (extends-within t.grown x.term s.within) (omega arith) t.below;
  ones = λ r i. elim (in-cons i) [ inl z ↦ ap (λ (c : Two). c.1) z | inr j ↦ t.ones r j ];
  mean = ap₂ also (ap spelled (extends-tree t.grown x.term s.within) ∙ s.means) t.mean;
}

no_more : (q : Pool) → PoolValid q → AllEntered q none (record { pool = q; runs = [] })
unfolding trees_of
no_more q w = record { valid = w; grown = extends-refl q; below = runs-below-nil (length q); ones = λ r i. absurd (in-nil i); mean = refl }

two-mean : {q : Pool} (a b : Tree) {x y : Interned} → Entered q a x → Entered x.pool b y → AllEntered q (also a (also b none)) (record { pool = y.pool; runs = (x.term, 1) ∷ (y.term, 1) ∷ [] })
two-mean a b {x} {y} s t = one_more a (also b none) x _ s (one_more b none y _ t (no_more y.pool t.valid))

many-of : (o : ℕ) (l : Trees) → count l ≢ 2 → of_children o l ≡ many o l
unfolding count
many-of o none h = refl
many-of o (also a none) h = refl
many-of o (also a (also b none)) h = absurd (h refl)
many-of o (also a (also b (also c l))) h = refl

module _ (lim : Limits) where
  over : (q : Pool) (l : Trees) (k : Children) (o : ℕ) (r : Interned) → AllEntered q l k → intern lim k.pool (op_node o k.runs) ≡ ok r → Entered q (of_children o l) r
  unfolding spelled
  over q l k o r u e =
      let x = intern-enters lim k.pool (op_node o k.runs) r u.valid (op-valid (length k.pool) o k.runs u.below) e in
      record {
        valid = x.valid;
        grown = extends-trans u.grown x.grown;
        within = x.within;
        means = ap spelled (x.means ∙ tree-operation (trees_after [] k.pool) (op_node o k.runs) refl) ∙ ap (of_children o) (kids-are q l k u);
      }

  choice : (q : Pool) (l : Trees) (k : Children) (r : Interned) → AllEntered q l k → intern lim k.pool (marked_node k.runs) ≡ ok r → Entered q (C.marked l) r
  unfolding spelled
  choice q l k r u e =
      let n : NodeValid (length k.pool) (marked_node k.runs) = record { formed = marked refl refl refl; below = join-below (length k.pool) k.runs u.below; joined = join-joined k.runs } in
      let x = intern-enters lim k.pool (marked_node k.runs) r u.valid n e in
      record {
        valid = x.valid;
        grown = extends-trans u.grown x.grown;
        within = x.within;
        means = ap spelled (x.means ∙ tree-marked (trees_after [] k.pool) (marked_node k.runs) refl) ∙ ap C.marked (kids-are q l k u);
      }

  mutual
    unfolding enter enter_all spelled

    -- a tree that the text of a formula has is entered with a number that stands for it
    pub enter-means : (a : Tree) → Shaped a → (q : Pool) (r : Interned) → PoolValid q → enter lim q a ≡ ok r → Entered q a r
    enter-means (lit o v) h q r w e =
        let x = intern-enters lim q (lit_node o v) r w (lit-valid (length q) o v) e in
        record { valid = x.valid; grown = x.grown; within = x.within; means = ap spelled (x.means ∙ tree-literal (trees_after [] q) (lit_node o v) refl) }
    enter-means (two o a b) (two_shaped f g) q r w e =
        let (x, fx, gx) = bind_ok (enter lim q a) _ r e in
        let (y, fy, gy) = bind_ok (enter lim x.pool b) _ r gx in
        let s = enter-means a f q x w fx in
        over q (also a (also b none)) (record { pool = y.pool; runs = (x.term, 1) ∷ (y.term, 1) ∷ [] }) o r (two-mean a b s (enter-means b g x.pool y s.valid fy)) gy
    enter-means (many o l) (many-shaped n h) q r w e =
        let (k, fk, gk) = bind_ok (enter_all lim q l) (λ k. intern lim k.pool (op_node o k.runs)) r e in
        let u = over q l k o r (all-mean l h q k w fk) gk in
        record { valid = u.valid; grown = u.grown; within = u.within; means = u.means ∙ many-of o l n }
    enter-means (C.marked l) (marked-shaped n h) q r w e =
        let (k, fk, gk) = bind_ok (enter_all lim q l) (λ k. intern lim k.pool (marked_node k.runs)) r e in
        choice q l k r (all-mean l h q k w fk) gk

    all-mean : (l : Trees) → ShapedAll l → (q : Pool) (k : Children) → PoolValid q → enter_all lim q l ≡ ok k → AllEntered q l k
    all-mean none h q k w e = rw (← ok-inj e) (no_more q w)
    all-mean (also a l) (also-shaped f g) q k w e =
        let (x, fx, gx) = bind_ok (enter lim q a) _ k e in
        let (y, fy, gy) = bind_ok (enter_all lim x.pool l) _ k gx in
        let s = enter-means a f q x w fx in
        rw (← ok-inj gy) (one_more a l x y s (all-mean l g x.pool y s.valid fy))

-- "read it back by precedence": what is read, into any pool, stands for the term that the text is a text of
pub read-means : (lim : Limits) (t : List ℕ) (q : Pool) (s : List ℕ) (r : Interned) → PoolValid q → read_card lim t q s ≡ ok r → FormulaText t s (card_tree r.pool r.term) × Entered q (card_tree r.pool r.term) r
unfolding read_card
read-means lim t q s r w e =
    let (a, f, g) = bind_ok (read_text t s) (enter lim q) r e in
    let x = read-text t s a f in
    let u = enter-means lim a (formula-shaped x.formula) q r w g in
    rw u.means (x, u)
