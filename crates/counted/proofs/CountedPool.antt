-- What the pool holds: each step that makes a term either enters terms of a kind alone, or is refused where terms of that kind are beyond the limits.
use Rattle.std.specs.Prelude.{◌≡◌, refl, ◌⊎◌, Bool, List, [], ◌∷◌, ◌++◌, map, ltb, leb, eqb, length, get_or}
use Rattle.std.proofs.Common.{sym, ◌∙◌, inl, inr, eq-or-lt_of_le, arith, ltb-false, leb-false, length-append}
use Rattle.std.proofs.Math.Path.{ap, ap₂}
use Rattle.std.proofs.Math.Bool.{true, false}
use Prim.Native.Nat.{ℕ, zero, suc, ◌+◌, ◌≤◌, ◌<◌}
use Rattle.std.proofs.Math.Nat.{suc_inj}
use Rattle.spec.specs.Bytes.{pick, both, sum, place, Two, Res, ok, refused, ◌>>=◌}
use Rattle.spec.specs.Image.{Tables, Member, Lit, kind_of, best_size, best_member, children_of}
use Rattle.spec.specs.Pool.{Node, Pool, TERMS, RUNS, same_node, run_count, Interned, interned, intern, op_node, lit_node, variants_node, Children, child_terms, best_term_in, best_term, starting_term}
use Rattle.spec.specs.System as system
use Rattle.spec.specs.Round.{Act, Choice, stay, act, plan_runs, action_term, choice_term}
use Rattle.spec.specs.Run.{limits_for}
use Rattle.spec.specs.declared.Caller.{Caller}
use Rattle.spec.specs.Meaning.{In, here, there, Term, lit, node, Runs, run, runs_of, tree_of, trees_after, tree_at}
use Rattle.laws.specs.Valid.{Valid}
use Rattle.laws.specs.Lists.{Distinct, none, more, in-get}
use Rattle.laws.specs.Bag.{map-append, sum-append}
use Rattle.pools.specs.Pool.{RunsBelow, runs-below-nil, runs-below-cons, NodeValid, op-valid, lit-valid, variants-valid, trees-length, tree-grows, tree-last, tree-literal}
use Rattle.pools.proofs.PoolTrees.{trees-apart}
use Rattle.pools.specs.PoolIntern.{Extends, extends-refl, extends-trans, extends-within, extends-tree, Interns}
use Rattle.pools.proofs.PoolIntern.{intern-enters, added}
use Rattle.pools.specs.PoolSort.{action_runs}
use Rattle.laws.specs.BestMembers.{IsClass, IsPair, best-in, best-falls, child-within, child-counted}
use Rattle.counted.specs.Counted.{join_trees, child_trees, best_tree, marked_tree, starting_tree, choice_tree, Beyond}
use Rattle.counted.specs.CountedTrees.{op-tree, marked-tree, pool-runs}
use Rattle.counted.specs.CountedRuns.{Stands, Acts, choice-valid, choice-tree}
use Rattle.counted.specs.CountedPool.{Kept, Goes, fine, full, goes_bind, Entered, best-tree}

-- .. in a pool that p has grown to
entered-later : {C : Term → Type 0} {p q : Pool} {x : Term} {r : Res Interned} → Extends p q → Goes C (Entered C q x) r → Goes C (Entered C p x) r
entered-later g (fine E) = fine (record { kept = E.kept; grown = extends-trans g E.grown; within = E.within; means = E.means })
entered-later g (full b) = full b

-- ---- a pool beyond the limits
distinct-by : {A : Type 0} (d : A) (l : List A) → ((i j : ℕ) → i < length l → j < length l → get_or l i d ≡ get_or l j d → i ≡ j) → Distinct l
distinct-by d [] h = none
distinct-by d (x ∷ l) h =
    more (λ i. let (k, b, e) = in-get d x l i in absurd (omega (arith, h 0 (suc k) (omega arith) (omega arith) (sym e))))
    (distinct-by d l (λ i j a b e. suc_inj (h (suc i) (suc j) (omega arith) (omega arith) e)))

crowded : {C : Term → Type 0} (p : Pool) → Kept C p → (TERMS < length p) ⊎ (RUNS < run_count p) → Beyond C
crowded {C} p K h = record {
  terms = trees_after [] p;
  distinct = distinct-by (lit 0 0) (trees_after [] p) (λ i j a b e. trees-apart p K.valid i j (omega (arith, trees-length [] p)) (omega (arith, trees-length [] p)) e);
  counted = λ x i. let (k, b, e) = in-get (lit 0 0) x (trees_after [] p) i in rw (← e) (K.kinds k (omega (arith, trees-length [] p)));
  beyond = elim h [ inl l ↦ inl (omega (arith, trees-length [] p)) | inr l ↦ inr (omega (arith, pool-runs p K.valid)) ];
}

-- ---- interning
runs-added : (p : Pool) (n : Node) → run_count (p ++ (n ∷ [])) ≡ run_count p + length n.runs
unfolding run_count sum
runs-added p n = ap sum (map-append (λ (m : Node). length m.runs) p (n ∷ [])) ∙ sum-append (map (λ (m : Node). length m.runs) p) (length n.runs ∷ []) ∙ omega arith

no_room : (a b : Bool) → both a b ≡ false → (a ≡ false) ⊎ (b ≡ false)
no_room true b e = inr e
no_room false b e = inl refl

-- `who`: either caller (02, Paper 9), since both have the same limits of terms and runs
pub intern-goes : (who : Caller) {C : Term → Type 0} (p : Pool) (n : Node) (x : Term) → Kept C p → NodeValid (length p) n → tree_of (trees_after [] p) n ≡ x → C x → Goes C (Entered C p x) (intern (limits_for who) p n)
unfolding intern
intern-goes who {C} p n x K w e c = go (ltb (place (same_node n) p) (length p)) refl (both (ltb (length p) TERMS) (leb (run_count p + length n.runs) RUNS)) refl (λ r z. intern-enters (limits_for who) p n r K.valid w z)
  where
    -- with the new term the pool holds terms of the kind alone
    larger : Interns p n (interned (p ++ (n ∷ [])) (length p)) → Kept C (p ++ (n ∷ []))
    larger I = record { valid = I.valid; kinds = λ a h. by a (eq-or-lt_of_le {n = a} {m = length p} (omega (arith, length-append p (n ∷ [])))) }
      where
        by : (a : ℕ) → (a ≡ length p) ⊎ (a < length p) → C (tree_at (p ++ (n ∷ [])) a)
        by a (inl z) = rw (z, tree-last p n, e) c
        by a (inr l) = rw (tree-grows p (n ∷ []) a l) (K.kinds a l)

    beyond : (ltb (length p) TERMS ≡ false) ⊎ (leb (run_count p + length n.runs) RUNS ≡ false) → (TERMS < length (p ++ (n ∷ []))) ⊎ (RUNS < run_count (p ++ (n ∷ [])))
    beyond (inl z) = inl (let h = ltb-false (length p) TERMS z in omega (arith, length-append p (n ∷ [])))
    beyond (inr z) = inr (let h = leb-false (run_count p + length n.runs) RUNS z in omega (arith, runs-added p n))

    go : (a : Bool) → ltb (place (same_node n) p) (length p) ≡ a → (b : Bool) → both (ltb (length p) TERMS) (leb (run_count p + length n.runs) RUNS) ≡ b
        → ((r : Interned) → pick a (ok (interned p (place (same_node n) p))) (pick b (ok (interned (p ++ (n ∷ [])) (length p))) (refused 13)) ≡ ok r → Interns p n r)
        → Goes C (Entered C p x) (pick a (ok (interned p (place (same_node n) p))) (pick b (ok (interned (p ++ (n ∷ [])) (length p))) (refused 13)))
    go true h b q I = let J = I _ refl in fine (record { kept = K; grown = J.grown; within = J.within; means = J.means ∙ e })
    go false h true q I = let J = I _ refl in fine (record { kept = larger J; grown = J.grown; within = J.within; means = J.means ∙ e })
    go false h false q I = full (crowded (p ++ (n ∷ [])) (larger (added p n K.valid w h)) (beyond (no_room _ _ q)))

-- ---- best terms
-- the children of a best term, entered in order
record EnteredAll (C : Term → Type 0) (p : Pool) (s : Runs) (k : Children) : Type 0 where
  kept : Kept C k.pool
  grown : Extends p k.pool
  below : RunsBelow (length k.pool) k.runs
  means : runs_of (trees_after [] k.pool) k.runs ≡ s

children-go : {C : Term → Type 0} (best : Pool → ℕ → Res Interned) (tree : ℕ → Term) (l : List Two) → ((c : Two) → In c l → (p : Pool) → Kept C p → Goes C (Entered C p (tree c.0)) (best p c.0))
    → ((c : Two) → In c l → 1 ≤ c.1) → (p : Pool) → Kept C p → Goes C (EnteredAll C p (child_trees tree l)) (child_terms best p l)
unfolding child_terms child_trees runs_of
children-go best tree [] h n p K = fine (record { kept = K; grown = extends-refl p; below = runs-below-nil (length p); means = refl })
children-go {C} best tree (c ∷ l) h n p K =
    goes_bind (best p c.0) _ (h c here p K)
    (λ a A. goes_bind (child_terms best a.pool l) _ (children-go best tree l (λ d i. h d (there i)) (λ d i. n d (there i)) a.pool A.kept)
    (λ m M. fine (record {
      kept = M.kept;
      grown = extends-trans A.grown M.grown;
      below = runs-below-cons {r = (a.term, c.1)} (extends-within M.grown a.term A.within) (n c here) M.below;
      means = ap₂ (λ (x : Term) (s : Runs). run x c.1 s) (extends-tree M.grown a.term A.within ∙ A.means) M.means;
    })))

module _ (who : Caller) (t : Tables) (v : Valid t) (C : Term → Type 0) (best : (c : ℕ) → IsClass t c → C (best_tree t c)) where
  best-goes : (f : ℕ) (p : Pool) (c : ℕ) → IsClass t c → best_size t c ≤ f → Kept C p → Goes C (Entered C p (best_tree t c)) (best_term_in (limits_for who) f t p c)
  unfolding best_term_in
  best-goes zero p c h a K = let z = (v.best.best_range c h).0 in absurd (omega arith)
  best-goes (suc f) p c h a K =
      go (eqb (kind_of t m.op) Lit) (best-tree t v c h) (λ d i q L. let z = best-falls t v c h d i in best-goes f q d.0 (child-within t v m c (best-in t v c h) d i) (omega arith) L)
    where
      m : Member
      m = best_member t c

      l : List Two
      l = children_of t m

      go : (b : Bool) → best_tree t c ≡ elim b [ true ↦ lit m.op m.value | false ↦ node m.op (join_trees (child_trees (best_tree t) l)) ]
          → ((d : Two) → In d l → (q : Pool) → Kept C q → Goes C (Entered C q (best_tree t d.0)) (best_term_in (limits_for who) f t q d.0))
          → Goes C (Entered C p (best_tree t c)) (elim b [ true ↦ intern (limits_for who) p (lit_node m.op m.value) | false ↦ child_terms (best_term_in (limits_for who) f t) p l >>= (λ k. intern (limits_for who) k.pool (op_node m.op k.runs)) ])
      go true e ih = intern-goes who p (lit_node m.op m.value) (best_tree t c) K (lit-valid (length p) m.op m.value) (tree-literal (trees_after [] p) (lit_node m.op m.value) refl ∙ sym e) (best c h)
      go false e ih =
          goes_bind (child_terms (best_term_in (limits_for who) f t) p l) _ (children-go (best_term_in (limits_for who) f t) (best_tree t) l ih (child-counted t v m c (best-in t v c h)) p K)
          (λ k L. entered-later L.grown (intern-goes who k.pool (op_node m.op k.runs) (best_tree t c) L.kept (op-valid (length k.pool) m.op k.runs L.below)
          (op-tree k.pool L.kept.valid m.op k.runs L.below ∙ ap (λ (s : Runs). node m.op (join_trees s)) L.means ∙ sym e) (best c h)))

  -- ---- starting terms
  pub starting-goes : (p : Pool) (c : Two) → IsPair t c → C (starting_tree t c) → Kept C p → Goes C (Entered C p (starting_tree t c)) (starting_term (limits_for who) t p c)
  unfolding starting_term
  starting-goes p c (h, k) s K = go (eqb c.0 c.1) s
    where
      go : (b : Bool) → C (pick b (best_tree t c.0) (marked_tree (best_tree t c.0) (best_tree t c.1)))
          → Goes C (Entered C p (pick b (best_tree t c.0) (marked_tree (best_tree t c.0) (best_tree t c.1))))
          (elim b [ true ↦ best_term (limits_for who) t p c.0 | false ↦ best_term (limits_for who) t p c.0 >>= (λ x. best_term (limits_for who) t x.pool c.1 >>= (λ y. intern (limits_for who) y.pool (variants_node x.term y.term))) ])
      go true s = best-goes (best_size t c.0) p c.0 h (omega arith) K
      go false s =
          goes_bind (best_term (limits_for who) t p c.0) _ (best-goes (best_size t c.0) p c.0 h (omega arith) K)
          (λ x X. goes_bind (best_term (limits_for who) t x.pool c.1) _ (best-goes (best_size t c.1) x.pool c.1 k (omega arith) X.kept) (λ y Y. last x X y Y))
        where
          last : (x : Interned) → Entered C p (best_tree t c.0) x → (y : Interned) → Entered C x.pool (best_tree t c.1) y
              → Goes C (Entered C p (marked_tree (best_tree t c.0) (best_tree t c.1))) (intern (limits_for who) y.pool (variants_node x.term y.term))
          last x X y Y =
              entered-later (extends-trans X.grown Y.grown)
              (intern-goes who y.pool (variants_node x.term y.term) (marked_tree (best_tree t c.0) (best_tree t c.1)) Y.kept (variants-valid (length y.pool) x.term y.term (extends-within Y.grown x.term X.within) Y.within)
              (marked-tree y.pool Y.kept.valid x.term y.term (extends-within Y.grown x.term X.within) Y.within ∙ ap₂ marked_tree (extends-tree Y.grown x.term X.within ∙ X.means) Y.means) s)

-- ---- the term of a choice
pub choice-goes : (who : Caller) {C : Term → Type 0} (t : Tables) (p : Pool) (of : Two → ℕ) (f : Two → Term) (c : Two) (ch : Choice) → Kept C p → Stands p of f c
    → ((a : Act) → ch ≡ act a → (d : Two) → In d a.places → Stands p of f d) → (Acts ch → C (choice_tree t f (f c) ch)) → Goes C (Entered C p (choice_tree t f (f c) ch)) (choice_term (limits_for who) t of p (of c) ch)
unfolding system.choice_term choice_tree action_term
choice-goes who t p of f c stay K (k, e) h g = fine (record { kept = K; grown = extends-refl p; within = k; means = e })
choice-goes who t p of f c (act a) K s h g =
    intern-goes who p (op_node a.op (action_runs t p a.op (plan_runs of a.places a.counts))) (choice_tree t f (f c) (act a)) K (choice-valid t p K.valid of f a (h a refl)) (choice-tree t p K.valid of f a (h a refl) (f c)) (g tt)
