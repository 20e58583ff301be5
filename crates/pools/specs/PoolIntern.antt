-- Interning: a node that is there keeps its number; a new one is entered at the end.
use Rattle.std.specs.Prelude.{◌≡◌, Bool, get_or}
use Rattle.std.proofs.Math.Path.{refl}
use Rattle.std.proofs.Common.{sym, ap, ap₂, ◌∙◌, not-suc-le-zero, arith, length-append}
use Rattle.std.proofs.Math.Bool.{true, false}
use mathlib.Core.List.{List, [], ◌∷◌, ◌++◌, map, append-nil, append_assoc}
use Prim.Native.Nat.{ℕ, zero, suc, ◌≤◌, ◌<◌}
use Rattle.std.proofs.Math.ListN.{length}
use Rattle.spec.specs.Bytes.{place, Two, same_two, same_twos}
use Rattle.spec.specs.Pool.{Node, Pool, node_at, join_runs, op_node, Interned}
use Rattle.spec.specs.Meaning.{node, expand, runs_of, tree_of, trees_after, tree_at}
use Rattle.laws.specs.Tests.{clash}
use Rattle.laws.specs.BagCount.{written}
use Rattle.pools.specs.Pool.{PoolValid, tree-grows, tree-operation}
use Rattle.pools.specs.PoolTrees.{expand-joined}
use Rattle.spec.specs.Pairs.{same-eq}

-- ---- tests
pub same-twos : (l m : List Two) → same_twos l m ≡ true → l ≡ m
unfolding same_twos
same-twos [] [] e = refl
same-twos [] (q ∷ m) e = absurd (clash (sym e))
same-twos (p ∷ l) [] e = absurd (clash (sym e))
same-twos (p ∷ l) (q ∷ m) e = go (same_two p q) refl (λ z. same-twos l m z)
  where
    go : (b : Bool) → same_two p q ≡ b → (same_twos l m ≡ true → l ≡ m) → p ∷ l ≡ q ∷ m
    go false x ih = absurd (clash (sym (rw (x, same_twos) at e)))
    go true x ih = ap₂ (λ (a : Two) (b : List Two). a ∷ b) (same-eq p q x) (ih (rw (x, same_twos) at e))

-- ---- the first entry that passes
module _ {A : Type 0} (f : A → Bool) (d : A) where
  pub place-passes : (l : List A) → place f l < length l → f (get_or l (place f l) d) ≡ true
  unfolding place
  place-passes [] h = absurd (not-suc-le-zero h)
  place-passes (x ∷ l) h = go (f x) refl (λ k. place-passes l k)
    where
      go : (b : Bool) → f x ≡ b → (place f l < length l → f (get_or l (place f l) d) ≡ true) → f (get_or (x ∷ l) (place f (x ∷ l)) d) ≡ true
      go true e ih = rw (e, place) e
      go false e ih = rw (e, place) (ih (let z : place f (x ∷ l) ≡ suc (place f l) = rw (e, place) refl in omega arith))

  -- no earlier entry passes
  pub place-first : (l : List A) (i : ℕ) → i < length l → f (get_or l i d) ≡ true → place f l ≤ i
  unfolding place
  place-first [] i h e = absurd (not-suc-le-zero h)
  place-first (x ∷ l) i h e = go (f x) refl i h e (λ j k q. place-first l j k q)
    where
      go : (b : Bool) → f x ≡ b → (i : ℕ) → i < suc (length l) → f (get_or (x ∷ l) i d) ≡ true → ((j : ℕ) → j < length l → f (get_or l j d) ≡ true → place f l ≤ j) → place f (x ∷ l) ≤ i
      go true p i h e ih = rw (p, place) (omega arith)
      go false p zero h e ih = absurd (clash (sym e ∙ p))
      go false p (suc i) h e ih = rw (p, place) (omega (arith, ih i (omega arith) e))

-- ---- the pool grows at its end only
pub record Extends (p q : Pool) : Type 0 where
  pub later : Pool
  pub is : q ≡ p ++ later

pub extends-refl : (p : Pool) → Extends p p
extends-refl p = record { later = []; is = sym (append-nil p) }

pub extends-trans : {p q r : Pool} → Extends p q → Extends q r → Extends p r
extends-trans {p} g h = record { later = g.later ++ h.later; is = h.is ∙ ap (λ (z : Pool). z ++ h.later) g.is ∙ append_assoc p g.later h.later }

pub extends-length : {p q : Pool} → Extends p q → length p ≤ length q
extends-length {p} g = rw g.is (omega (arith, length-append p g.later))

pub extends-within : {p q : Pool} → Extends p q → (a : ℕ) → a < length p → a < length q
extends-within g a h = let z = extends-length g in omega arith

pub extends-tree : {p q : Pool} → Extends p q → (a : ℕ) → a < length p → tree_at q a ≡ tree_at p a
extends-tree {p} g a h = rw g.is (tree-grows p g.later a h)

-- what interning node n in pool p gives
pub record Interns (p : Pool) (n : Node) (r : Interned) : Type 0 where
  pub valid : PoolValid r.pool
  pub grown : Extends p r.pool
  pub within : r.term < length r.pool
  pub entry : node_at r.pool r.term ≡ n
  pub means : tree_at r.pool r.term ≡ tree_of (trees_after [] p) n

-- an operation's node means the operation over its children's trees
abbrev pub OpMeans : Pool → ℕ → List Two → Interned → Type 0
OpMeans p o l r = (tree_at r.pool r.term ≡ node o (runs_of (trees_after [] p) (join_runs l))) × (expand (runs_of (trees_after [] p) (join_runs l)) ≡ map (tree_at p) (written l))

pub op-means : (p : Pool) (o : ℕ) (l : List Two) (r : Interned) → Interns p (op_node o l) r → OpMeans p o l r
op-means p o l r e = (e.means ∙ tree-operation (trees_after [] p) (op_node o l) refl, expand-joined (trees_after [] p) l)
