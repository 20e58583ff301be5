-- The numbers of a valid pool mean trees over the trees of earlier numbers, and different numbers mean different trees.
use Rattle.std.specs.Prelude.{◌≡◌, refl, List, [], ◌∷◌, ℕ, zero, suc, ◌≤◌, ◌<◌, length}
use Rattle.std.proofs.Common.{sym, ap₂, ◌∙◌, not-suc-le-zero, arith}
use Rattle.spec.specs.Bytes.{Two}
use Rattle.spec.specs.Pool.{Node, Pool, node_at}
use Rattle.spec.specs.Meaning.{here, Term, lit, node, variants, Runs, run, runs_of, tree_of, trees_after, tree_at}
use Rattle.pools.specs.Pool.{RunsBelow, runs-below-tail, Formed, operation, literal, marked, NodeValid, PoolValid, numbered, tree-operation, tree-literal, tree-marked}
use Rattle.pools.specs.PoolTrees.{tree_is, node-ext, valid-below}

-- ---- a node can be read off its tree, where the children's trees are apart
runs-inj : (ts : List Term) (i : ℕ) (l m : List Two) → RunsBelow i l → RunsBelow i m → ((a b : ℕ) → a < i → b < i → numbered ts a ≡ numbered ts b → a ≡ b) → runs_of ts l ≡ runs_of ts m → l ≡ m
unfolding runs_of
runs-inj ts i [] [] b c h e = refl
runs-inj ts i [] (s ∷ m) b c h e = cc
runs-inj ts i (r ∷ l) [] b c h e = cc
runs-inj ts i (r ∷ l) (s ∷ m) b c h e =
    let (x, y, z) = parts e in
    ap₂ (λ (u : Two) (w : List Two). u ∷ w) (ap₂ (λ (u w : ℕ). (u, w)) (h r.0 s.0 (b.earlier r here) (c.earlier s here) x) y) (runs-inj ts i l m (runs-below-tail b) (runs-below-tail c) h z)
  where
    parts : run (numbered ts r.0) r.1 (runs_of ts l) ≡ run (numbered ts s.0) s.1 (runs_of ts m) → (numbered ts r.0 ≡ numbered ts s.0) × (r.1 ≡ s.1) × (runs_of ts l ≡ runs_of ts m)
    parts e = (cc, cc, cc)

node-inj : (ts : List Term) (i : ℕ) (x y : Node) → NodeValid i x → NodeValid i y → ((a b : ℕ) → a < i → b < i → numbered ts a ≡ numbered ts b → a ≡ b) → tree_of ts x ≡ tree_of ts y → x ≡ y
node-inj ts i x y v w h e = go v.formed w.formed
  where
    two : (o o' : ℕ) (r r' : Runs) → node o r ≡ node o' r' → (o ≡ o') × (r ≡ r')
    two o o' r r' e = (cc, cc)

    lits : (o o' u u' : ℕ) → lit o u ≡ lit o' u' → (o ≡ o') × (u ≡ u')
    lits o o' u u' e = (cc, cc)

    marks : (r r' : Runs) → variants r ≡ variants r' → r ≡ r'
    marks r r' e = cc

    go : Formed x → Formed y → x ≡ y
    go (operation a z) (operation b u) =
        let (o, r) = two _ _ _ _ (sym (tree-operation ts x a) ∙ e ∙ tree-operation ts y b) in
        node-ext x y (a ∙ sym b) o (z ∙ sym u) (runs-inj ts i x.runs y.runs v.below w.below h r)
    go (literal a z) (literal b u) =
        let (o, r) = lits _ _ _ _ (sym (tree-literal ts x a) ∙ e ∙ tree-literal ts y b) in
        node-ext x y (a ∙ sym b) o r (z ∙ sym u)
    go (marked a z f) (marked b u g) =
        let r = marks _ _ (sym (tree-marked ts x a) ∙ e ∙ tree-marked ts y b) in
        node-ext x y (a ∙ sym b) (z ∙ sym u) (f ∙ sym g) (runs-inj ts i x.runs y.runs v.below w.below h r)
    go (operation a z) (literal b u) = clash (sym (tree-operation ts x a) ∙ e ∙ tree-literal ts y b)
      where
        clash : node x.op (runs_of ts x.runs) ≡ lit y.op y.value → x ≡ y
        clash k = cc
    go (literal a z) (operation b u) = clash (sym (tree-literal ts x a) ∙ e ∙ tree-operation ts y b)
      where
        clash : lit x.op x.value ≡ node y.op (runs_of ts y.runs) → x ≡ y
        clash k = cc
    go (operation a z) (marked c d q) = clash (sym (tree-operation ts x a) ∙ e ∙ tree-marked ts y c)
      where
        clash : node x.op (runs_of ts x.runs) ≡ variants (runs_of ts y.runs) → x ≡ y
        clash k = cc
    go (marked c d q) (operation a z) = clash (sym (tree-marked ts x c) ∙ e ∙ tree-operation ts y a)
      where
        clash : variants (runs_of ts x.runs) ≡ node y.op (runs_of ts y.runs) → x ≡ y
        clash k = cc
    go (literal a z) (marked c d q) = clash (sym (tree-literal ts x a) ∙ e ∙ tree-marked ts y c)
      where
        clash : lit x.op x.value ≡ variants (runs_of ts y.runs) → x ≡ y
        clash k = cc
    go (marked c d q) (literal a z) = clash (sym (tree-marked ts x c) ∙ e ∙ tree-literal ts y a)
      where
        clash : variants (runs_of ts x.runs) ≡ lit y.op y.value → x ≡ y
        clash k = cc

-- Different numbers of a valid pool mean different trees.
pub trees-apart : (p : Pool) → PoolValid p → (a b : ℕ) → a < length p → b < length p → tree_at p a ≡ tree_at p b → a ≡ b
trees-apart p v a b h k e = go (length p) a b (omega arith) h k e
  where
    go : (n a b : ℕ) → n ≤ length p → a < n → b < n → tree_at p a ≡ tree_at p b → a ≡ b
    go zero a b l h k e = absurd (not-suc-le-zero h)
    go (suc n) a b l h k e =
        v.apart a b (omega arith) (omega arith)
        (node-inj (trees_after [] p) n (node_at p a) (node_at p b)
        (valid-below a n (node_at p a) (omega arith) (v.nodes a (omega arith)))
        (valid-below b n (node_at p b) (omega arith) (v.nodes b (omega arith)))
        (λ c d hc hd q. go n c d (omega arith) hc hd q)
        (sym (tree_is p v a (omega arith)) ∙ e ∙ tree_is p v b (omega arith)))
