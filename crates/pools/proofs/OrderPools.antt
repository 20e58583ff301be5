-- The tree of a choice's term does not depend on what else is in the pool: so interning only the final term of a turn changes no result.
use Rattle.std.specs.Prelude.{◌≡◌, Bool, ℕ, ◌+◌, ◌<◌, eqb, length}
use Rattle.std.proofs.Math.Path.{refl}
use Rattle.std.proofs.Common.{sym, ap, ap₂, ◌∙◌, arith, eqb-true, eq-eqb, ne_eqb}
use Rattle.std.proofs.Math.Bool.{true, false}
use mathlib.Core.List.{List, [], ◌∷◌}
use Rattle.std.proofs.lemmas.Bool.{eqb-false}
use Rattle.spec.specs.Bytes.{Limits, Two, pick, ok}
use Rattle.spec.specs.Image.{Tables, kind_of, is_commutative}
use Rattle.spec.specs.Pool.{Pool, join_to, join_runs, Interned, is_greater, structural_cmp, insert_run, sort_runs}
use Rattle.spec.specs.System as system
use Rattle.spec.specs.System.{Choice, stay, act, plan_runs}
use Rattle.spec.specs.Round.{action_term, choice_term}
use Rattle.spec.specs.Meaning.{In, here, there, node, runs_of, trees_after, tree_at}
use Rattle.pools.specs.Pool.{PoolValid}
use Rattle.pools.proofs.PoolTrees.{trees-apart}
use Rattle.pools.specs.PoolIntern.{Extends, op-means}
use Rattle.pools.specs.PoolSort.{plan-below, action_runs}
use Rattle.pools.proofs.PoolSort.{action-enters}
use Rattle.pools.specs.OrderTerms.{term_cmp}
use Rattle.pools.proofs.Order.{as-expanded, tree-fuel}
use Rattle.laws.specs.Results.{ok-inj}
use Rattle.pools.specs.OrderPools.{Same, same-extends, SamePlaces, PlacesWithin}

module _ (p q : Pool) (v : PoolValid p) (w : PoolValid q) where
  -- runs of the same trees with the same counts
  pub data Alike : List Two → List Two → Type 0 where
    none : Alike [] []
    next : {r s : Two} {l m : List Two} → Same p q r.0 s.0 → r.1 ≡ s.1 → Alike l m → Alike (r ∷ l) (s ∷ m)

  -- the same trees compare the same in both pools
  pub cmp-same : (a b c d : ℕ) → Same p q a c → Same p q b d → structural_cmp (length p) p a b ≡ structural_cmp (length q) q c d
  cmp-same a b c d A B =
      let n = length p + length q in
      let al = A.left in let ar = A.right in let bl = B.left in let br = B.right in
      as-expanded p v a b al bl
      ∙ tree-fuel p v (length p) n a b al bl (omega arith) (omega arith) al bl
      ∙ ap₂ (term_cmp n) A.tree B.tree
      ∙ tree-fuel q w n (length q) c d (omega arith) (omega arith) ar br ar br
      ∙ sym (as-expanded q w c d ar br)

  pub eqb_same : (a b c d : ℕ) → Same p q a c → Same p q b d → eqb a b ≡ eqb c d
  eqb_same a b c d A B = go (eqb a b) refl
    where
      go : (x : Bool) → eqb a b ≡ x → eqb a b ≡ eqb c d
      go true e =
          let z : tree_at q c ≡ tree_at q d = sym A.tree ∙ ap (tree_at p) (eqb-true a b e) ∙ B.tree in
          e ∙ sym (eq-eqb c d (trees-apart q w c d A.right B.right z))
      go false e = e ∙ sym (ne_eqb c d (λ k. eqb-false a b e (trees-apart p v a b A.left B.left (A.tree ∙ ap (tree_at q) k ∙ sym B.tree))))

  insert-alike : (r s : Two) (l m : List Two) → Same p q r.0 s.0 → r.1 ≡ s.1 → Alike l m → Alike (insert_run p r l) (insert_run q s m)
  unfolding insert_run
  insert-alike r s l m h e none = next h e none
  insert-alike r s l m h e (next {r = x} {s = y} {l = k} {m = n} g f i) = go (is_greater (structural_cmp (length p) p r.0 x.0)) (is_greater (structural_cmp (length q) q s.0 y.0)) (ap is_greater (cmp-same r.0 x.0 s.0 y.0 h g)) (insert-alike r s k n h e i)
    where
      go : (b c : Bool) → b ≡ c → Alike (insert_run p r k) (insert_run q s n) → Alike (elim b [ true ↦ x ∷ insert_run p r k | false ↦ r ∷ x ∷ k ]) (elim c [ true ↦ y ∷ insert_run q s n | false ↦ s ∷ y ∷ n ])
      go true c z ih = rw (← z) (next g f ih)
      go false c z ih = rw (← z) (next h e (next g f i))

  sort-alike : {l m : List Two} → Alike l m → Alike (sort_runs p l) (sort_runs q m)
  unfolding sort_runs
  sort-alike none = none
  sort-alike (next {r = r} {s = s} {l = l} {m = m} h e i) = insert-alike r s (sort_runs p l) (sort_runs q m) h e (sort-alike i)

  join_to-alike : (r s : Two) (l m : List Two) → Same p q r.0 s.0 → r.1 ≡ s.1 → Alike l m → Alike (join_to r l) (join_to s m)
  join_to-alike r s l m h e none = next h e none
  join_to-alike r s l m h e (next {r = x} {s = y} {l = k} {m = n} g f i) = go (eqb r.0 x.0) (eqb s.0 y.0) (eqb_same r.0 x.0 s.0 y.0 h g)
    where
      go : (b c : Bool) → b ≡ c → Alike (pick b ((r.0, r.1 + x.1) ∷ k) (r ∷ x ∷ k)) (pick c ((s.0, s.1 + y.1) ∷ n) (s ∷ y ∷ n))
      go true c z = rw (← z) (next {r = (r.0, r.1 + x.1)} {s = (s.0, s.1 + y.1)} h (ap₂ (λ (a b : ℕ). a + b) e f) i)
      go false c z = rw (← z) (next h e (next g f i))

  pub join-alike : {l m : List Two} → Alike l m → Alike (join_runs l) (join_runs m)
  unfolding join_runs
  join-alike none = none
  join-alike (next {r = r} {s = s} {l = l} {m = m} h e i) = join_to-alike r s (join_runs l) (join_runs m) h e (join-alike i)

  runs_same : {l m : List Two} → Alike l m → runs_of (trees_after [] p) l ≡ runs_of (trees_after [] q) m
  unfolding runs_of
  runs_same none = refl
  runs_same (next {r = r} {s = s} {l = l} {m = m} h e i) = rw (h.tree, e, runs_same i) refl

  plan-alike : {N : Type 0} (of of' : N → ℕ) (ps : List N) (x : List ℕ) → ((c : N) → In c ps → Same p q (of c) (of' c)) → Alike (plan_runs of ps x) (plan_runs of' ps x)
  unfolding plan_runs
  plan-alike of of' [] x h = none
  plan-alike of of' (c ∷ ps) [] h = none
  plan-alike of of' (c ∷ ps) (n ∷ x) h = go (eqb n 0) (plan-alike of of' ps x (λ d i. h d (there i)))
    where
      go : (b : Bool) → Alike (plan_runs of ps x) (plan_runs of' ps x) → Alike (elim b [ true ↦ plan_runs of ps x | false ↦ (of c, n) ∷ plan_runs of ps x ]) (elim b [ true ↦ plan_runs of' ps x | false ↦ (of' c, n) ∷ plan_runs of' ps x ])
      go true ih = ih
      go false ih = next {r = (of c, n)} {s = (of' c, n)} (h c here) refl ih

  picked : (b : Bool) {l m : List Two} → Alike l m → Alike (pick b (sort_runs p l) l) (pick b (sort_runs q m) m)
  picked true i = sort-alike i
  picked false i = i

action-tree : {N : Type 0} (lim : Limits) (t : Tables) (p : Pool) → PoolValid p → (of : N → ℕ) (o : ℕ) (ps : List N) (x : List ℕ) (r : Interned) → ((c : N) → In c ps → of c < length p) → action_term lim t p o (plan_runs of ps x) ≡ ok r
    → tree_at r.pool r.term ≡ node o (runs_of (trees_after [] p) (join_runs (action_runs t p o (plan_runs of ps x))))
action-tree lim t p v of o ps x r h e = (op-means p o (action_runs t p o (plan_runs of ps x)) r (action-enters lim t p v o (plan_runs of ps x) r (plan-below of (length p) ps x h) e)).0

-- A choice gives the same tree over any two valid pools in which its places mean the same trees.
pub choice-anywhere : (lim : Limits) (t : Tables) (p q : Pool) → PoolValid p → PoolValid q → (of of' : Two → ℕ) (old old' : ℕ) (ch : Choice Two) → Same p q old old' → SamePlaces p q of of' ch
    → (r s : Interned) → choice_term lim t of p old ch ≡ ok r → choice_term lim t of' q old' ch ≡ ok s → tree_at r.pool r.term ≡ tree_at s.pool s.term
unfolding system.choice_term
choice-anywhere lim t p q v w of of' old old' stay S P r s e f = rw (← ok-inj e, ← ok-inj f) S.tree
choice-anywhere lim t p q v w of of' old old' (act a) S P r s e f =
    action-tree lim t p v of a.op a.places a.counts r (λ c i. (P c i).left) e
    ∙ ap (node a.op) (runs_same p q v w (join-alike p q v w (picked p q v w (is_commutative (kind_of t a.op)) (plan-alike p q v w of of' a.places a.counts P))))
    ∙ sym (action-tree lim t q w of' a.op a.places a.counts s (λ c i. (P c i).right) f)

-- So over a pool and over a larger one: what else has been interned changes nothing.
pub choice-larger : (lim : Limits) (t : Tables) (p q : Pool) → PoolValid p → PoolValid q → Extends p q → (of : Two → ℕ) (old : ℕ) (ch : Choice Two) → old < length p → PlacesWithin p of ch
    → (r s : Interned) → choice_term lim t of p old ch ≡ ok r → choice_term lim t of q old ch ≡ ok s → tree_at r.pool r.term ≡ tree_at s.pool s.term
choice-larger lim t p q v w g of old stay h k = choice-anywhere lim t p q v w of of old old stay (same-extends g old h) tt
choice-larger lim t p q v w g of old (act a) h k = choice-anywhere lim t p q v w of of old old (act a) (same-extends g old h) (λ c i. same-extends g (of c) (k c i))
