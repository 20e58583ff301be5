-- What the pool holds: each step that makes a term either enters terms of a kind alone, or is refused where terms of that kind are beyond the limits.
use Rattle.std.specs.Prelude.{◌≡◌, refl, List, [], ◌∷◌, eqb, length}
use Rattle.std.proofs.Common.{◌∙◌, arith}
use Rattle.std.proofs.Math.Path.{ap, ap₂}
use Rattle.std.proofs.Math.Bool.{true, false}
use Prim.Native.Nat.{ℕ, zero, suc, ◌≤◌, ◌<◌}
use Rattle.spec.specs.Bytes.{Two, Res, ok, refused, ◌>>=◌}
use Rattle.spec.specs.Image.{Tables, Member, Lit, kind_of, best_size, best_member, children_of}
use Rattle.spec.specs.Pool.{Pool, Interned}
use Rattle.spec.specs.Meaning.{In, here, there, Term, lit, node, Runs, run, tree_at}
use Rattle.laws.specs.Valid.{Valid}
use Rattle.pools.specs.Pool.{PoolValid}
use Rattle.pools.specs.PoolIntern.{Extends}
use Rattle.laws.specs.BestMembers.{IsClass, best-in, best-falls, child-within}
use Rattle.counted.specs.Counted.{join_trees, child_trees, best_tree_in, best_tree, Beyond}

-- a valid pool whose terms are all of the kind C
pub record Kept (C : Term → Type 0) (p : Pool) : Type 0 where
  pub valid : PoolValid p
  pub kinds : (a : ℕ) → a < length p → C (tree_at p a)

-- a step gives something for which Q holds, or it is refused where terms of the kind C are beyond the limits
pub data Goes (C : Term → Type 0) {A : Type 0} (Q : A → Type 0) : Res A → Type 0 where
  fine : {a : A} → Q a → Goes C Q (ok a)
  full : {k : ℕ} → Beyond C → Goes C Q (refused k)

pub goes_bind : {C : Term → Type 0} {A B : Type 0} {Q : A → Type 0} {S : B → Type 0} (r : Res A) (f : A → Res B) → Goes C Q r → ((a : A) → Q a → Goes C S (f a)) → Goes C S (r >>= f)
goes_bind r f (fine {a = a} q) h = h a q
goes_bind r f (full b) h = full b

-- the term x is entered in pool p
pub record Entered (C : Term → Type 0) (p : Pool) (x : Term) (r : Interned) : Type 0 where
  pub kept : Kept C r.pool
  pub grown : Extends p r.pool
  pub within : r.term < length r.pool
  pub means : tree_at r.pool r.term ≡ x

child-trees-agree : (f g : ℕ → Term) (l : List Two) → ((c : Two) → In c l → f c.0 ≡ g c.0) → child_trees f l ≡ child_trees g l
unfolding child_trees
child-trees-agree f g [] h = refl
child-trees-agree f g (c ∷ l) h = ap₂ (λ (x : Term) (s : Runs). run x c.1 s) (h c here) (child-trees-agree f g l (λ d i. h d (there i)))

module _ (t : Tables) (v : Valid t) where
  -- more fuel changes nothing
  tree-fuel : (f g c : ℕ) → IsClass t c → best_size t c ≤ f → best_size t c ≤ g → best_tree_in f t c ≡ best_tree_in g t c
  unfolding best_tree_in
  tree-fuel zero g c h a b = let z = (v.best.best_range c h).0 in absurd (omega arith)
  tree-fuel (suc f) zero c h a b = let z = (v.best.best_range c h).0 in absurd (omega arith)
  tree-fuel (suc f) (suc g) c h a b =
      ap (λ (s : Runs). elim (eqb (kind_of t m.op) Lit) [ true ↦ lit m.op m.value | false ↦ node m.op (join_trees s) ])
      (child-trees-agree (best_tree_in f t) (best_tree_in g t) (children_of t m) (λ d i. let z = best-falls t v c h d i in tree-fuel f g d.0 (child-within t v m c (best-in t v c h) d i) (omega arith) (omega arith)))
    where
      m : Member
      m = best_member t c

  -- the best term of a class: its best member over its children's best terms
  pub best-tree : (c : ℕ) → IsClass t c
      → best_tree t c ≡ elim (eqb (kind_of t (best_member t c).op) Lit) [ true ↦ lit (best_member t c).op (best_member t c).value | false ↦ node (best_member t c).op (join_trees (child_trees (best_tree t) (children_of t (best_member t c)))) ]
  unfolding best_tree_in
  best-tree c h =
      tree-fuel (best_size t c) (suc (best_size t c)) c h (omega arith) (omega arith)
      ∙ ap (λ (s : Runs). elim (eqb (kind_of t m.op) Lit) [ true ↦ lit m.op m.value | false ↦ node m.op (join_trees s) ])
      (child-trees-agree (best_tree_in (best_size t c) t) (best_tree t) (children_of t m) (λ d i. let z = best-falls t v c h d i in tree-fuel (best_size t c) (best_size t d.0) d.0 (child-within t v m c (best-in t v c h) d i) (omega arith) (omega arith)))
    where
      m : Member
      m = best_member t c
