-- `structural_cmp` on the entries of a valid pool: it orders as on the expanded lists, its fuel suffices, and it is a total order.
use Rattle.std.specs.Prelude.{◌≡◌, ◌⊎◌, Bool, true, false, eqb}
use Rattle.std.proofs.Math.Path.{refl, ap, ap₂}
use Rattle.std.proofs.Common.{sym, ◌∙◌, inl, inr, not-suc-le-zero, arith, eqb-true}
use mathlib.Core.List.{List, []}
use Prim.Native.Nat.{ℕ, zero, suc, ◌+◌, ◌<◌}
use Rattle.std.proofs.Math.ListN.{length, length-map}
use Rattle.spec.specs.Pool.{Node, Pool, node_at, Order, less, equal, greater, compareℕ, then, expanded_length, runs_cmp, structural_cmp, is_greater}
use Rattle.spec.specs.Meaning.{In, Term, tree_of, trees_after, tree_at}
use Rattle.laws.specs.Tests.{clash}
use Rattle.laws.specs.BagCount.{written, written-length, in-written}
use Rattle.pools.specs.Pool.{Formed, operation, literal, marked, PoolValid, tree-operation, tree-literal, tree-marked}
use Rattle.pools.specs.PoolTrees.{tree_is, expand-runs, node-ext}
use Rattle.pools.specs.OrderTerms.{expanded_children, lex, term_cmp, flip, Tri, compare_same, then_equal, lex_map, lex-agree, lex-same, term-flip, term-tri, term-refl}
use Rattle.pools.specs.OrderRuns.{runs-as-lists, lists-as-lex, written-inj}
use Rattle.pools.specs.Order.{Parts, NotAfter}

node-parts : (p : Pool) (n : Node) → Formed n → Parts p n (tree_of (trees_after [] p) n)
unfolding expanded_children written
node-parts p n (operation e z) = rw (tree-operation (trees_after [] p) n e) (record { head = sym e; op = refl; value = sym z; children = expand-runs (trees_after [] p) n.runs })
node-parts p n (literal e z) = rw (tree-literal (trees_after [] p) n e) (record { head = sym e; op = refl; value = refl; children = rw z refl })
node-parts p n (marked e z u) = rw (tree-marked (trees_after [] p) n e) (record { head = sym e; op = sym z; value = sym u; children = expand-runs (trees_after [] p) n.runs })

pub tree-parts : (p : Pool) → PoolValid p → (a : ℕ) → a < length p → Parts p (node_at p a) (tree_at p a)
tree-parts p v a h = rw (tree_is p v a h) (node-parts p (node_at p a) (v.nodes a h).formed)

module _ (p : Pool) (v : PoolValid p) where
  abbrev tree : ℕ → Term
  tree a = tree_at p a

  abbrev kids : ℕ → List ℕ
  kids a = written (node_at p a).runs

  kid-earlier : (a : ℕ) → a < length p → (c : ℕ) → In c (kids a) → c < a
  kid-earlier a h c i = let (r, j, e, k) = in-written c (node_at p a).runs i in rw e ((v.nodes a h).below.earlier r j)

  -- comparing two numbers' trees, by their nodes
  by-nodes : (f a b : ℕ) → a < length p → b < length p → term_cmp (suc f) (tree a) (tree b) ≡
      then (compareℕ (node_at p a).head (node_at p b).head)
      (then (compareℕ (node_at p a).op (node_at p b).op)
      (then (compareℕ (node_at p a).value (node_at p b).value)
      (then (compareℕ (expanded_length (node_at p a).runs) (expanded_length (node_at p b).runs)) (lex (λ c d. term_cmp f (tree c) (tree d)) (kids a) (kids b)))))
  unfolding term_cmp
  by-nodes f a b h k =
      let A = tree-parts p v a h in let B = tree-parts p v b k in
      let la : length (expanded_children (tree a)) ≡ expanded_length (node_at p a).runs = ap (λ (z : List Term). length z) A.children ∙ length-map (kids a) (tree_at p) ∙ written-length (node_at p a).runs in
      let lb : length (expanded_children (tree b)) ≡ expanded_length (node_at p b).runs = ap (λ (z : List Term). length z) B.children ∙ length-map (kids b) (tree_at p) ∙ written-length (node_at p b).runs in
      ap₂ then (ap₂ compareℕ A.head B.head)
      (ap₂ then (ap₂ compareℕ A.op B.op)
      (ap₂ then (ap₂ compareℕ A.value B.value)
      (ap₂ then (ap₂ compareℕ la lb) (ap₂ (lex (term_cmp f)) A.children B.children ∙ lex_map (term_cmp f) (tree_at p) (kids a) (kids b)))))

  -- trees that compare as equal are the same number's
  pub same-tree : (f a b : ℕ) → a < f → b < f → a < length p → b < length p → term_cmp f (tree a) (tree b) ≡ equal → a ≡ b
  same-tree zero a b h k i j e = absurd (not-suc-le-zero h)
  same-tree (suc f) a b h k i j e =
      let x = node_at p a in let y = node_at p b in
      let (eh, e₁) = then_equal (compareℕ x.head y.head) _ (sym (by-nodes f a b i j) ∙ e) in
      let (eo, e₂) = then_equal (compareℕ x.op y.op) _ e₁ in
      let (ev, e₃) = then_equal (compareℕ x.value y.value) _ e₂ in
      let (el, er) = then_equal (compareℕ (expanded_length x.runs) (expanded_length y.runs)) _ e₃ in
      let same : kids a ≡ kids b = lex-same (λ c d. term_cmp f (tree c) (tree d)) (kids a) (kids b)
      (λ c d u w q. let hc = kid-earlier a i c u in let hd = kid-earlier b j d w in same-tree f c d (omega arith) (omega arith) (omega arith) (omega arith) q) er in
      let X = v.nodes a i in let Y = v.nodes b j in
      v.apart a b i j
      (node-ext x y (compare_same _ _ eh) (compare_same _ _ eo) (compare_same _ _ ev)
      (written-inj x.runs y.runs X.joined Y.joined X.below.counted Y.below.counted same))

  then-assoc : (a b c : Order) → then (then a b) c ≡ then a (then b c)
  then-assoc less b c = refl
  then-assoc equal b c = refl
  then-assoc greater b c = refl

  -- "as it does on the expanded lists", at any fuel above both numbers
  pub cmp-as-trees : (f a b : ℕ) → a < f → b < f → a < length p → b < length p → structural_cmp f p a b ≡ term_cmp f (tree a) (tree b)
  unfolding structural_cmp
  cmp-as-trees zero a b h k i j = absurd (not-suc-le-zero h)
  cmp-as-trees (suc f) a b h k i j =
      go (eqb a b) refl (walk (λ c d u w. let hc = kid-earlier a i c u in let hd = kid-earlier b j d w in cmp-as-trees f c d (omega arith) (omega arith) (omega arith) (omega arith)))
    where
      x : Node
      x = node_at p a

      y : Node
      y = node_at p b

      hs : Order
      hs = then (compareℕ x.head y.head) (then (compareℕ x.op y.op) (then (compareℕ x.value y.value) (compareℕ (expanded_length x.runs) (expanded_length y.runs))))

      rest : Order
      rest = lex (λ c d. term_cmp f (tree c) (tree d)) (kids a) (kids b)

      -- the nested "then"s, with the children last
      regroup : then hs rest ≡ term_cmp (suc f) (tree a) (tree b)
      regroup =
          then-assoc (compareℕ x.head y.head) _ rest
          ∙ ap (then (compareℕ x.head y.head)) (then-assoc (compareℕ x.op y.op) _ rest ∙ ap (then (compareℕ x.op y.op)) (then-assoc (compareℕ x.value y.value) _ rest))
          ∙ sym (by-nodes f a b i j)

      Walk : Type 0
      Walk = hs ≡ equal → runs_cmp (length x.runs + length y.runs) (structural_cmp f p) x.runs y.runs ≡ rest

      decide : (o : Order) → hs ≡ o → Walk → (elim o [ less ↦ less | greater ↦ greater | equal ↦ runs_cmp (length x.runs + length y.runs) (structural_cmp f p) x.runs y.runs ]) ≡ then o rest
      decide less e w = refl
      decide greater e w = refl
      decide equal e w = w e

      -- with equal heads both child lists have the same length, and the walk goes by the children
      walk : ((c d : ℕ) → In c (kids a) → In d (kids b) → structural_cmp f p c d ≡ term_cmp f (tree c) (tree d)) → Walk
      walk ih e =
          let (e₁, f₁) = then_equal (compareℕ x.head y.head) _ e in
          let (e₂, f₂) = then_equal (compareℕ x.op y.op) _ f₁ in
          let (e₃, f₃) = then_equal (compareℕ x.value y.value) _ f₂ in
          let long : length (kids a) ≡ length (kids b) = written-length x.runs ∙ compare_same _ _ f₃ ∙ sym (written-length y.runs) in
          runs-as-lists (length x.runs + length y.runs) (structural_cmp f p) x.runs y.runs (v.nodes a i).below.counted (v.nodes b j).below.counted (omega arith)
          ∙ lists-as-lex (structural_cmp f p) (λ c d. term_cmp f (tree c) (tree d)) (kids a) (kids b) long ih (λ c. term-refl f (tree c))
          (λ c d u w q. let hc = kid-earlier a i c u in let hd = kid-earlier b j d w in same-tree f c d (omega arith) (omega arith) (omega arith) (omega arith) q)

      go : (z : Bool) → eqb a b ≡ z → Walk
          → (elim z [ true ↦ equal | false ↦ elim hs [ less ↦ less | greater ↦ greater | equal ↦ runs_cmp (length x.runs + length y.runs) (structural_cmp f p) x.runs y.runs ] ]) ≡ term_cmp (suc f) (tree a) (tree b)
      go true e w = sym (rw (eqb-true a b e) (term-refl (suc f) (tree b)))
      go false e w = decide hs refl w ∙ regroup

  -- fuel above both numbers changes nothing
  pub tree-fuel : (f g a b : ℕ) → a < f → b < f → a < g → b < g → a < length p → b < length p → term_cmp f (tree a) (tree b) ≡ term_cmp g (tree a) (tree b)
  tree-fuel zero g a b hf kf hg kg i j = absurd (not-suc-le-zero hf)
  tree-fuel (suc f) zero a b hf kf hg kg i j = absurd (not-suc-le-zero hg)
  tree-fuel (suc f) (suc g) a b hf kf hg kg i j =
      by-nodes f a b i j
      ∙ ap rest (lex-agree (λ c d. term_cmp f (tree c) (tree d)) (λ c d. term_cmp g (tree c) (tree d)) (kids a) (kids b)
      (λ c d u w. let hc = kid-earlier a i c u in let hd = kid-earlier b j d w in tree-fuel f g c d (omega arith) (omega arith) (omega arith) (omega arith) (omega arith) (omega arith)))
      ∙ sym (by-nodes g a b i j)
    where
      rest : Order → Order
      rest o =
          then (compareℕ (node_at p a).head (node_at p b).head)
          (then (compareℕ (node_at p a).op (node_at p b).op)
          (then (compareℕ (node_at p a).value (node_at p b).value)
          (then (compareℕ (expanded_length (node_at p a).runs) (expanded_length (node_at p b).runs)) o)))

module _ (p : Pool) (v : PoolValid p) where
  -- "`structural_cmp` must order as it does on the expanded lists."
  pub as-expanded : (a b : ℕ) → a < length p → b < length p → structural_cmp (length p) p a b ≡ term_cmp (length p) (tree_at p a) (tree_at p b)
  as-expanded a b h k = cmp-as-trees p v (length p) a b h k h k

  -- The fuel suffices: any fuel above both numbers gives the same.
  pub fuel-suffices : (f a b : ℕ) → a < f → b < f → a < length p → b < length p → structural_cmp f p a b ≡ structural_cmp (length p) p a b
  fuel-suffices f a b h k i j = cmp-as-trees p v f a b h k i j ∙ tree-fuel p v f (length p) a b h k i j i j ∙ sym (as-expanded a b i j)

  -- Two numbers compare the other way round when they change places.
  pub reversible : (a b : ℕ) → a < length p → b < length p → structural_cmp (length p) p b a ≡ flip (structural_cmp (length p) p a b)
  reversible a b h k = as-expanded b a k h ∙ term-flip (length p) (tree_at p a) (tree_at p b) ∙ ap flip (sym (as-expanded a b h k))

  -- Only a number and itself compare as equal.
  pub equal-only : (a b : ℕ) → a < length p → b < length p → structural_cmp (length p) p a b ≡ equal → a ≡ b
  equal-only a b h k e = same-tree p v (length p) a b h k h k (sym (as-expanded a b h k) ∙ e)

  pub transitive : (a b c : ℕ) → a < length p → b < length p → c < length p → NotAfter p a b → NotAfter p b c → NotAfter p a c
  transitive a b c h k l x y =
      rw (as-expanded a c h l) (go (term_cmp (length p) (tree_at p a) (tree_at p b)) (term_cmp (length p) (tree_at p b) (tree_at p c)) (term_cmp (length p) (tree_at p a) (tree_at p c)) (term-tri (length p) (tree_at p a) (tree_at p b) (tree_at p c)) (rw (as-expanded a b h k) at x) (rw (as-expanded b c k l) at y))
    where
      go : (x y z : Order) → Tri x y z → is_greater x ≡ false → is_greater y ≡ false → is_greater z ≡ false
      go equal y z e p q = rw e q
      go less equal z e p q = rw e refl
      go less less z e p q = rw e refl
      go less greater z e p q = absurd (clash q)
      go greater y z e p q = absurd (clash p)

  pub antisymmetric : (a b : ℕ) → a < length p → b < length p → NotAfter p a b → NotAfter p b a → a ≡ b
  antisymmetric a b h k x y = equal-only a b h k (go (structural_cmp (length p) p a b) x (rw (reversible a b h k) at y))
    where
      go : (o : Order) → is_greater o ≡ false → is_greater (flip o) ≡ false → o ≡ equal
      go less p q = absurd (clash q)
      go equal p q = refl
      go greater p q = absurd (clash p)

  pub total : (a b : ℕ) → a < length p → b < length p → NotAfter p a b ⊎ NotAfter p b a
  total a b h k = go (structural_cmp (length p) p a b) refl
    where
      go : (o : Order) → structural_cmp (length p) p a b ≡ o → NotAfter p a b ⊎ NotAfter p b a
      go less e = inl (rw e refl)
      go equal e = inl (rw e refl)
      go greater e = inr (rw (reversible a b h k, e) refl)
