-- A term's children are no larger than it is, and no more than its size; so the counts of a term's runs.
use Rattle.std.specs.Prelude.{◌≡◌, List, ◌++◌, map, ℕ, zero, suc, ◌≤◌, ◌<◌, length, replicate}
use Rattle.std.proofs.Common.{sym, ap, ◌∙◌, zero-le, not-suc-le-zero, arith}
use Rattle.spec.specs.Bytes.{sum, Two}
use Rattle.spec.specs.Pool.{Pool, node_at, VARIANTS, expanded_length}
use Rattle.spec.specs.Meaning.{In, here, there, Term, lit, node, variants, term_quality, Branched, at_literal, at_node, at_place, AllBranched, no_branch, and_branch, tree_at}
use Rattle.laws.specs.Lists.{in_right, in_map, length-map}
use Rattle.laws.specs.BagCount.{written, written-length}
use Rattle.pools.specs.Pool.{PoolValid}
use Rattle.pools.specs.OrderTerms.{head_of, expanded_children}
use Rattle.pools.specs.Order.{Parts}
use Rattle.pools.proofs.Order.{tree-parts}
use Rattle.readings.specs.ReadingsNode.{size, runs-size}

-- ---- trees
mutual
  unfolding term_quality sum

  -- every term has a size
  some_size : {a : Term} → Branched 2 a → 1 ≤ size a
  some_size at_literal = omega arith
  some_size (at_node s) = omega arith
  some_size (at_place {r = r} e s) = omega (arith, all-sizes s, runs-size r)

  all-sizes : {s : List Term} → AllBranched 2 s → length s ≤ sum (map size s)
  all-sizes no_branch = zero-le
  all-sizes (and_branch b s) = omega (arith, some_size b, all-sizes s)

children-branched : (n : ℕ) (a : Term) → Branched n a → AllBranched n (expanded_children a)
unfolding expanded_children
children-branched n a at_literal = no_branch
children-branched n a (at_node s) = s
children-branched n a (at_place e s) = s

branches : (n : ℕ) (a : Term) → Branched n a → head_of a ≡ VARIANTS → length (expanded_children a) ≡ n
unfolding expanded_children
branches n a at_literal h = absurd (omega arith)
branches n a (at_node s) h = absurd (omega arith)
branches n a (at_place e s) h = e

children-sizes : (a : Term) → sum (map size (expanded_children a)) ≤ size a
unfolding expanded_children term_quality sum
children-sizes (lit o v) = zero-le
children-sizes (node o r) = omega (arith, runs-size r)
children-sizes (variants r) = omega (arith, runs-size r)

one-branched : (n : ℕ) (x : Term) (s : List Term) → In x s → AllBranched n s → Branched n x
one-branched n x s here (and_branch b c) = b
one-branched n x s (there {l = l} i) (and_branch b c) = one-branched n x l i c

one_size : (x : Term) (s : List Term) → In x s → size x ≤ sum (map size s)
unfolding sum
one_size x s (here {l = l}) = omega arith
one_size x s (there {l = l} i) = omega (arith, one_size x l i)

-- ---- terms of a pool
has-written : (r : Two) (l : List Two) → In r l → 1 ≤ r.1 → In r.0 (written l)
unfolding written
has-written r l (here {l = m}) h = go r.1 h
  where
    go : (n : ℕ) → 1 ≤ n → In r.0 (replicate n r.0 ++ written m)
    go zero h = absurd (not-suc-le-zero h)
    go (suc n) h = here
has-written r l (there {y = s} {l = m} i) h = in_right (replicate s.1 s.0) (has-written r m i h)

-- term a has two branches at each marked place, and at most the size `most`
pub record Sized (p : Pool) (most a : ℕ) : Type 0 where
  pub branched : Branched 2 (tree_at p a)
  pub within : size (tree_at p a) ≤ most

module _ (p : Pool) (v : PoolValid p) (most a : ℕ) (h : a < length p) (S : Sized p most a) where
  parts : Parts p (node_at p a) (tree_at p a)
  parts = tree-parts p v a h

  pub child-sized : (r : Two) → In r (node_at p a).runs → Sized p most r.0
  child-sized r i = record {
    branched = one-branched 2 (tree_at p r.0) (expanded_children (tree_at p a)) in-children (children-branched 2 (tree_at p a) S.branched);
    within = omega (arith, one_size (tree_at p r.0) (expanded_children (tree_at p a)) in-children, children-sizes (tree_at p a), S.within);
  }
    where
      in-children : In (tree_at p r.0) (expanded_children (tree_at p a))
      in-children = rw parts.children (in_map (tree_at p) (has-written r (node_at p a).runs i ((v.nodes a h).below.counted r i)))

  many : length (expanded_children (tree_at p a)) ≡ expanded_length (node_at p a).runs
  many = ap length parts.children ∙ length-map (tree_at p) (written (node_at p a).runs) ∙ written-length (node_at p a).runs

  pub counts-sized : expanded_length (node_at p a).runs ≤ most
  counts-sized = omega (arith, many, all-sizes (children-branched 2 (tree_at p a) S.branched), children-sizes (tree_at p a), S.within)

  pub two-branches : (node_at p a).head ≡ VARIANTS → expanded_length (node_at p a).runs ≡ 2
  two-branches e = sym many ∙ branches 2 (tree_at p a) S.branched (parts.head ∙ e)
