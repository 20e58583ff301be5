-- Equal listings have equal terms: the bytes tell the whole formula, and not its first line alone.
use Rattle.std.specs.Prelude.{◌≡◌, Bool, true, false, eqb}
use Rattle.std.proofs.Math.Path.{refl, sym, ap, ap₂}
use Rattle.std.proofs.Common.{◌∙◌, inl, inr, not-suc-le-zero, arith, eqb-true}
use mathlib.Core.List.{List, [], ◌∷◌, ◌++◌, map}
use Prim.Native.Nat.{ℕ, zero, suc, ◌+◌, ◌≤◌, ◌<◌}
use Rattle.std.proofs.Math.ListN.{length, get_or, length-append}
use Rattle.std.proofs.lemmas.Bool.{eqb-false}
use Rattle.spec.specs.Bytes.{pick, Two, all, any, each, place, text, decimal}
use Rattle.spec.specs.Pool.{Pool, Node, node_at, OP, LIT, VARIANTS}
use Rattle.spec.specs.Listing.{visit_runs, visit_term, subterms, line, run_field, head_fields, term_line}
use Rattle.spec.specs.Meaning.{In, here, there, Term, lit, node, variants, run, runs_of, tree_of, trees_after, tree_at}
use Rattle.laws.specs.Lists.{in-cons, in-nil}
use Rattle.pools.specs.Pool.{Formed, operation, literal, marked, PoolValid, get_d-last, tree-operation, tree-literal, tree-marked}
use Rattle.pools.specs.PoolTrees.{tree_is}
use Rattle.numbering.specs.WalkLaws.{visit-fresh, visit-new, subterms-closed}
use Rattle.numbering.specs.NumberLaws.{at_in}
use Rattle.demands.specs.Fields.{Solid, Solids, all_append, solids-append, solid-of, heads, nil-cons, cut, line-cut, decimal-digits, decimal-solid, decimal-tells}

-- ---- the fields of a line
-- behind the line's number
abbrev behind : Pool → List ℕ → ℕ → List (List ℕ)
behind p order a = head_fields (node_at p a) ++ map (run_field order) (node_at p a).runs

head-solid : (n : Node) → Solids (head_fields n)
unfolding head_fields Solids text all
head-solid n = go (eqb n.head LIT) (eqb n.head VARIANTS)
  where
    go : (b c : Bool) → Solids (pick b (text "lit" ∷ decimal n.op ∷ decimal n.value ∷ []) (pick c (text "variants" ∷ []) (text "op" ∷ decimal n.op ∷ [])))
    go true c = (solid-of (text "lit") refl, (decimal-solid n.op, (decimal-solid n.value, tt)))
    go false true = (solid-of (text "variants") refl, tt)
    go false false = (solid-of (text "op") refl, (decimal-solid n.op, tt))

run-solid : (order : List ℕ) (r : Two) → Solid (run_field order r)
unfolding run_field text all
run-solid order r = all_append _ (decimal (place (eqb r.0) order)) _ (decimal-solid (place (eqb r.0) order)) (all_append _ (text ":") (decimal r.1) (solid-of (text ":") refl) (decimal-solid r.1))

runs-solid : (order : List ℕ) (l : List Two) → Solids (map (run_field order) l)
unfolding Solids
runs-solid order [] = tt
runs-solid order (r ∷ l) = (run-solid order r, runs-solid order l)

line-solid : (p : Pool) (order : List ℕ) (a : ℕ) → Solids (decimal (place (eqb a) order) ∷ behind p order a)
unfolding Solids
line-solid p order a = (decimal-solid (place (eqb a) order), solids-append (head_fields (node_at p a)) _ (head-solid (node_at p a)) (runs-solid order (node_at p a).runs))

line-some : (fs : List (List ℕ)) (l : List ℕ) → [] ≡ line fs ++ l → ⊥
unfolding line
line-some [] l e = nil-cons e
line-some ([] ∷ []) l e = nil-cons e
line-some ((x ∷ f) ∷ []) l e = nil-cons e
line-some ([] ∷ g ∷ gs) l e = nil-cons e
line-some ((x ∷ f) ∷ g ∷ gs) l e = nil-cons e

-- equal lines one after the other: as many, and each with the fields of its fellow
module _ (p q : Pool) (L M : List ℕ) where
  lines-tell : (x y : List ℕ) → each (term_line p L) x ≡ each (term_line q M) y → (length x ≡ length y) × ((k : ℕ) → k < length x → behind p L (get_or x k 0) ≡ behind q M (get_or y k 0))
  unfolding each term_line
  lines-tell [] [] e = (refl, λ k h. absurd (not-suc-le-zero h))
  lines-tell [] (b ∷ y) e = absurd (line-some (decimal (place (eqb b) M) ∷ behind q M b) _ e)
  lines-tell (a ∷ x) [] e = absurd (line-some (decimal (place (eqb a) L) ∷ behind p L a) _ (sym e))
  lines-tell (a ∷ x) (b ∷ y) e =
      let (f, r) = line-cut (decimal (place (eqb a) L)) (behind p L a) (decimal (place (eqb b) M)) (behind q M b) (each (term_line p L) x) (each (term_line q M) y) (line-solid p L a) (line-solid q M b) e in
      let (n, g) = lines-tell x y r in
      (ap suc n, λ k. at k (heads f).1 g)
    where
      at : (k : ℕ) → behind p L a ≡ behind q M b → ((j : ℕ) → j < length x → behind p L (get_or x j 0) ≡ behind q M (get_or y j 0)) → k < suc (length x) → behind p L (get_or (a ∷ x) k 0) ≡ behind q M (get_or (b ∷ y) k 0)
      at zero f g h = f
      at (suc k) f g h = g k (omega arith)

  run-tells : (r s : Two) → run_field L r ≡ run_field M s → (place (eqb r.0) L ≡ place (eqb s.0) M) × (r.1 ≡ s.1)
  unfolding run_field text
  run-tells r s e =
      let (a, t, b) = cut (λ x. (48 ≤ x) × (x ≤ 57)) 58 58 (λ h. omega (arith, h.1)) (λ h. omega (arith, h.1)) (decimal (place (eqb r.0) L)) (decimal (place (eqb s.0) M)) (decimal r.1) (decimal s.1) (decimal-digits (place (eqb r.0) L)) (decimal-digits (place (eqb s.0) M)) e in
      (decimal-tells (place (eqb r.0) L) (place (eqb s.0) M) a, decimal-tells r.1 s.1 b)

  -- runs of the same trees, with the same counts
  data Alike : List Two → List Two → Type 0 where
    none : Alike [] []
    next : {r s : Two} {l m : List Two} → tree_at p r.0 ≡ tree_at q s.0 → r.1 ≡ s.1 → Alike l m → Alike (r ∷ l) (s ∷ m)

  -- runs that print alike, where children of the same line number have the same tree
  runs-tell : (l m : List Two) → ((r s : Two) → In r l → In s m → place (eqb r.0) L ≡ place (eqb s.0) M → tree_at p r.0 ≡ tree_at q s.0) → map (run_field L) l ≡ map (run_field M) m → Alike l m
  runs-tell [] [] h e = none
  runs-tell [] (s ∷ m) h e = absurd (nil-cons e)
  runs-tell (r ∷ l) [] h e = absurd (nil-cons (sym e))
  runs-tell (r ∷ l) (s ∷ m) h e =
      let (f, g) = heads e in
      let (a, b) = run-tells r s f in
      next (h r s here here a) b (runs-tell l m (λ x y i j. h x y (there i) (there j)) g)

  alike_runs : {l m : List Two} → Alike l m → runs_of (trees_after [] p) l ≡ runs_of (trees_after [] q) m
  unfolding runs_of
  alike_runs none = refl
  alike_runs (next {r = r} {s = s} e c A) = λ i. run (e i) (c i) (alike_runs A i)

-- what a node prints, by its form
prints-operation : (n : Node) → n.head ≡ OP → head_fields n ≡ text "op" ∷ decimal n.op ∷ []
unfolding head_fields
prints-operation n e = rw e refl

prints-literal : (n : Node) → n.head ≡ LIT → head_fields n ≡ text "lit" ∷ decimal n.op ∷ decimal n.value ∷ []
unfolding head_fields
prints-literal n e = rw e refl

prints-marked : (n : Node) → n.head ≡ VARIANTS → head_fields n ≡ text "variants" ∷ []
unfolding head_fields
prints-marked n e = rw e refl

-- ---- nodes that print alike, where children of the same line number have the same tree
module _ (p q : Pool) (v : PoolValid p) (w : PoolValid q) (L M : List ℕ) where
  node-tells : (c d : ℕ) → c < length p → d < length q → behind p L c ≡ behind q M d
      → ((r s : Two) → In r (node_at p c).runs → In s (node_at q d).runs → place (eqb r.0) L ≡ place (eqb s.0) M → tree_at p r.0 ≡ tree_at q s.0)
      → tree_at p c ≡ tree_at q d
  unfolding text
  node-tells c d hc hd e h = tree_is p v c hc ∙ go (v.nodes c hc).formed (w.nodes d hd).formed ∙ sym (tree_is q w d hd)
    where
      ts : List Term
      ts = trees_after [] p

      us : List Term
      us = trees_after [] q

      x : Node
      x = node_at p c

      y : Node
      y = node_at q d

      fields : (f g : List (List ℕ)) → head_fields x ≡ f → head_fields y ≡ g → f ++ map (run_field L) x.runs ≡ g ++ map (run_field M) y.runs
      fields f g a b = sym (ap (λ (z : List (List ℕ)). z ++ map (run_field L) x.runs) a) ∙ e ∙ ap (λ (z : List (List ℕ)). z ++ map (run_field M) y.runs) b

      kids : map (run_field L) x.runs ≡ map (run_field M) y.runs → Alike p q L M x.runs y.runs
      kids k = runs-tell p q L M x.runs y.runs h k

      go : Formed x → Formed y → tree_of ts x ≡ tree_of us y
      go (operation a z) (operation b u) =
          let (o, k) = heads (heads (fields _ _ (prints-operation x a) (prints-operation y b))).1 in
          tree-operation ts x a ∙ ap₂ node (decimal-tells x.op y.op o) (alike_runs p q L M (kids k)) ∙ sym (tree-operation us y b)
      go (literal a z) (literal b u) =
          let (o, k) = heads (heads (fields _ _ (prints-literal x a) (prints-literal y b))).1 in
          tree-literal ts x a ∙ ap₂ lit (decimal-tells x.op y.op o) (decimal-tells x.value y.value (heads k).0) ∙ sym (tree-literal us y b)
      go (marked a z f) (marked b u g) =
          let k = (heads (fields _ _ (prints-marked x a) (prints-marked y b))).1 in
          tree-marked ts x a ∙ ap variants (alike_runs p q L M (kids k)) ∙ sym (tree-marked us y b)
      go (operation a z) (literal b u) = absurd (omega (arith, (heads (heads (fields _ _ (prints-operation x a) (prints-literal y b))).0).0))
      go (literal a z) (operation b u) = absurd (omega (arith, (heads (heads (fields _ _ (prints-literal x a) (prints-operation y b))).0).0))
      go (operation a z) (marked b u g) = absurd (omega (arith, (heads (heads (fields _ _ (prints-operation x a) (prints-marked y b))).0).0))
      go (marked a z f) (operation b u) = absurd (omega (arith, (heads (heads (fields _ _ (prints-marked x a) (prints-operation y b))).0).0))
      go (literal a z) (marked b u g) = absurd (omega (arith, (heads (heads (fields _ _ (prints-literal x a) (prints-marked y b))).0).0))
      go (marked a z f) (literal b u) = absurd (omega (arith, (heads (heads (fields _ _ (prints-marked x a) (prints-literal y b))).0).0))

-- ---- the root's tree, from the lines
-- the line number of a listed term leads back to it
found : (x : ℕ) (l : List ℕ) → In x l → (place (eqb x) l < length l) × (get_or l (place (eqb x) l) 0 ≡ x)
unfolding place
found x [] i = absurd (in-nil i)
found x (y ∷ l) i = go (eqb x y) refl (λ j. found x l j) i
  where
    go : (b : Bool) → eqb x y ≡ b → (In x l → (place (eqb x) l < length l) × (get_or l (place (eqb x) l) 0 ≡ x)) → In x (y ∷ l) → (elim b [ true ↦ 0 | false ↦ suc (place (eqb x) l) ] < suc (length l)) × (get_or (y ∷ l) (elim b [ true ↦ 0 | false ↦ suc (place (eqb x) l) ]) 0 ≡ x)
    go true e ih i = (omega arith, sym (eqb-true x y e))
    go false e ih i = elim (in-cons i) [ inl q ↦ absurd (eqb-false x y e q) | inr j ↦ let (h, k) = ih j in (omega arith, k) ]

module _ (p q : Pool) (v : PoolValid p) (w : PoolValid q) (a b : ℕ) (ha : a < length p) (hb : b < length q) (e : each (term_line p (subterms p a)) (subterms p a) ≡ each (term_line q (subterms q b)) (subterms q b)) where
  abbrev L : List ℕ
  L = subterms p a

  abbrev M : List ℕ
  M = subterms q b

  as_long : length L ≡ length M
  as_long = (lines-tell p q L M L M e).0

  listed_below : (r : Pool) (u : PoolValid r) (c : ℕ) → c < length r → (x : ℕ) → In x (subterms r c) → x < length r
  listed_below r u c h x i = elim (visit-new r u (suc c) c [] (omega arith) h x i) [ inl j ↦ absurd (in-nil j) | inr z ↦ omega arith ]

  line-tree : (n k : ℕ) → k < length L → get_or L k 0 < n → tree_at p (get_or L k 0) ≡ tree_at q (get_or M k 0)
  line-tree zero k h l = absurd (not-suc-le-zero l)
  line-tree (suc n) k h l =
      let i = at_in L k h in
      let j = at_in M k (omega (arith, as_long)) in
      let c = listed_below p v a ha (get_or L k 0) i in
      node-tells p q v w L M (get_or L k 0) (get_or M k 0) c (listed_below q w b hb (get_or M k 0) j) ((lines-tell p q L M L M e).1 k h)
      (λ r s x y z.
      let (f, g) = found r.0 L (subterms-closed p v a ha (get_or L k 0) i r x) in
      let (f', g') = found s.0 M (subterms-closed q w b hb (get_or M k 0) j s y) in
      let below = (v.nodes (get_or L k 0) c).below.earlier r x in
      sym (ap (tree_at p) g) ∙ line-tree n (place (eqb r.0) L) f (omega arith) ∙ ap (λ (m : ℕ). tree_at q (get_or M m 0)) z ∙ ap (tree_at q) g')

  -- "The root is last."
  pub root-tree : tree_at p a ≡ tree_at q b
  unfolding any
  root-tree =
      let X = visit_runs (visit_term a p) (node_at p a).runs [] in
      let Y = visit_runs (visit_term b q) (node_at q b).runs [] in
      let x : L ≡ X ++ (a ∷ []) = visit-fresh p a a [] refl in
      let y : M ≡ Y ++ (b ∷ []) = visit-fresh q b b [] refl in
      let n : length L ≡ length X + 1 = ap length x ∙ length-append X (a ∷ []) in
      let m : length M ≡ length Y + 1 = ap length y ∙ length-append Y (b ∷ []) in
      let s : length X ≡ length Y = omega (arith, as_long) in
      let g : get_or L (length X) 0 ≡ a = ap (λ (z : List ℕ). get_or z (length X) 0) x ∙ get_d-last X a 0 in
      let k : get_or M (length X) 0 ≡ b = ap₂ (λ (z : List ℕ) (i : ℕ). get_or z i 0) y s ∙ get_d-last Y b 0 in
      sym (ap (tree_at p) g) ∙ line-tree (suc (get_or L (length X) 0)) (length X) (omega arith) (omega arith) ∙ ap (tree_at q) k
