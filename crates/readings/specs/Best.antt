-- Best terms: the pool stays valid, and each has its quality and belongs to its class, read in every way.
use Rattle.std.specs.Prelude.{◌≡◌, ◌≢◌, Bool, true, false, eqb, length}
use Rattle.std.proofs.Math.Path.{refl, sym, ap}
use Rattle.std.proofs.Common.{ap₂, ◌∙◌, arith, eqb-true}
use mathlib.Core.List.{List, [], ◌∷◌, map}
use Prim.Native.Nat.{ℕ, zero, suc, ◌+◌, ◌*◌, ◌≤◌, ◌<◌}
use Rattle.std.proofs.lemmas.Bool.{eqb-false}
use Rattle.spec.specs.Bytes.{Limits, Two, sum, Res, ok, ◌>>=◌}
use Rattle.spec.specs.Image.{Tables, Member, MSet, Lit, arities, is_commutative, kind_of, best_size, members_of, children_of, best_member, size_over}
use Rattle.spec.specs.Monomial.{classes, counts}
use Rattle.spec.specs.Transport.{plan_size, plan_mass}
use Rattle.spec.specs.Pool.{Pool, op_node, lit_node, Interned, intern, Children, child_terms, best_term_in, best_term}
use Rattle.spec.specs.Round.{cells_over, quality_over}
use Rattle.spec.specs.Meaning.{In, here, there, Term, lit, node, Runs, term_quality, expand, reading, trees_after, tree_at, at_literal, member, Belongs, literal}
use Rattle.laws.specs.Tests.{clash}
use Rattle.laws.specs.Scans.{nil-of-length}
use Rattle.laws.specs.Valid.{Valid}
use Rattle.laws.specs.Bag.{perm-of-eq}
use Rattle.laws.specs.BagCount.{written, spread, map-spread, spread_written, occurs-written, written-ones}
use Rattle.pools.specs.Pool.{RunsBelow, runs-below-nil, runs-below-cons, PoolValid, op-valid, lit-valid, tree-literal}
use Rattle.pools.specs.PoolIntern.{Extends, extends-refl, extends-trans, extends-within, extends-tree, Interns, op-means}
use Rattle.pools.proofs.PoolIntern.{intern-enters}
use Rattle.steps.specs.Readings.{Makes}
use Rattle.readings.specs.ReadingsNode.{Covers, in_order, any_order, TermFor, TermsFor, no_term, and_term, good-node}
use Rattle.laws.specs.BestMembers.{best-in, best-falls, child-within, child-counted, child-single, member-arity}
use Rattle.laws.specs.Lists.{map-map}
use Rattle.laws.specs.Results.{bind_ok, ok-inj}

module _ (t : Tables) where
  pub best-size : (l : List Two) → plan_size (counts l) (cells_over (map (λ c. (best_size t c.0, 0)) l)) ≡ sum (map (λ c. c.1 * best_size t c.0) l)
  unfolding plan_size sum
  best-size [] = refl
  best-size (c ∷ l) = omega (arith, best-size l)

  pub best-mass : (l : List Two) → plan_mass (counts l) (cells_over (map (λ c. (best_size t c.0, 0)) l)) ≡ 0
  unfolding plan_mass
  best-mass [] = refl
  best-mass (c ∷ l) = omega (arith, best-mass l)

  not-mset : (k : ℕ) → is_commutative k ≡ false → k ≢ MSet
  not-mset k e z = clash (rw z at e)

  -- a member is what its class is under the member's operation
  pub member-covers : Valid t → (m : Member) (c : ℕ) → In m (members_of t c) → kind_of t m.op ≢ Lit → Covers t m.op c (written (children_of t m))
  member-covers v m c i w = go (is_commutative (kind_of t m.op)) refl
    where
      go : (b : Bool) → is_commutative (kind_of t m.op) ≡ b → Covers t m.op c (written (children_of t m))
      go true e = any_order (children_of t m) (member m i refl refl) e (λ k. occurs-written k (children_of t m))
      go false e = in_order m i refl e w (written-ones (children_of t m) (child-single t v m c i (not-mset (kind_of t m.op) e)))

-- a best term belongs to its class however it is read
abbrev pub Itself : ℕ → ℕ → ℕ
Itself c k = c

module _ (lim : Limits) (t : Tables) (ways : ℕ) where
  -- the children of a best term: their pool, their runs along the member's children, their trees
  record MakesChildren (p : Pool) (l : List Two) (k : Children) : Type 0 where
    valid : PoolValid k.pool
    grown : Extends p k.pool
    below : RunsBelow (length k.pool) k.runs
    same : counts k.runs ≡ counts l
    good : TermsFor t ways Itself (map (λ c. c.0) l) (map (λ c. (best_size t c.0, 0)) l) (map (tree_at k.pool) (classes k.runs))

  children-made : (best : Pool → ℕ → Res Interned) (l : List Two) → ((c : Two) → In c l → (p : Pool) (r : Interned) → PoolValid p → best p c.0 ≡ ok r → Makes (TermFor t ways Itself) p c.0 (best_size t c.0, 0) r)
      → ((c : Two) → In c l → 1 ≤ c.1) → (p : Pool) (k : Children) → PoolValid p → child_terms best p l ≡ ok k → MakesChildren p l k
  unfolding child_terms
  children-made best [] h n p k v e = rw (← ok-inj e) (record { valid = v; grown = extends-refl p; below = runs-below-nil (length p); same = refl; good = no_term })
  children-made best (c ∷ l) h n p k v e =
      let (a, ea, e') = bind_ok (best p c.0) _ k e in
      let (m, em, e'') = bind_ok (child_terms best a.pool l) _ k e' in
      let A = h c here p a v ea in
      let M = children-made best l (λ d i. h d (there i)) (λ d i. n d (there i)) a.pool m A.valid em in
      let kept : tree_at m.pool a.term ≡ tree_at a.pool a.term = extends-tree M.grown a.term A.within in
      let g : TermFor t ways Itself c.0 (best_size t c.0, 0) (tree_at m.pool a.term) = rw kept A.good in
      rw (← ok-inj e'') (record {
        valid = M.valid;
        grown = extends-trans A.grown M.grown;
        below = runs-below-cons {r = (a.term, c.1)} (extends-within M.grown a.term A.within) (n c here) M.below;
        same = ap (λ (z : List ℕ). c.1 ∷ z) M.same;
        good = and_term g M.good;
      })

  literal-good : Valid t → (c : ℕ) → c < length t.classes → kind_of t (best_member t c).op ≡ Lit → TermFor t ways Itself c (best_size t c, 0) (lit (best_member t c).op (best_member t c).value)
  unfolding arities size_over sum term_quality reading
  literal-good v c h k = record { quality = ap (λ (z : ℕ). (z, 0)) (sym one); branched = at_literal; reads = λ j l. belongs }
    where
      i : In (best_member t c) (members_of t c)
      i = best-in t v c h

      none : children_of t (best_member t c) ≡ []
      none = nil-of-length (children_of t (best_member t c)) (member-arity t v (best_member t c) c i (rw k (λ z. omega arith)) ∙ rw k refl)

      one : best_size t c ≡ 1
      one = v.best.best_equation c h ∙ rw none refl

      belongs : Belongs t (lit (best_member t c).op (best_member t c).value) c
      belongs = literal (best_member t c) i k refl refl

  -- the best member over terms that are best for its children
  node-good : Valid t → (c : ℕ) → c < length t.classes → kind_of t (best_member t c).op ≢ Lit → (ts : List Term) (r : Runs)
      → TermsFor t ways Itself (map (λ d. d.0) (children_of t (best_member t c))) (map (λ d. (best_size t d.0, 0)) (children_of t (best_member t c))) ts
      → expand r ≡ spread ts (counts (children_of t (best_member t c))) → TermFor t ways Itself c (best_size t c, 0) (node (best_member t c).op r)
  unfolding size_over
  node-good v c h w ts r g e =
      rw (best-is) (good-node t ways Itself c m.op (map (λ d. d.0) l) (map (λ d. (best_size t d.0, 0)) l) ts (counts l) r g (perm-of-eq (sym e)) (λ n. sym e)
      (λ k j. rw (map-map {B = ℕ} (λ d. d.0) (λ d. d) l, spread_written l) (member-covers t v m c (best-in t v c h) w)))
    where
      m : Member
      m = best_member t c

      l : List Two
      l = children_of t m

      best-is : (best_size t c, 0) ≡ quality_over (counts l) (map (λ d. (best_size t d.0, 0)) l)
      best-is = ap₂ (λ (x y : ℕ). (x, y)) (v.best.best_equation c h ∙ ap (λ (z : ℕ). 1 + z) (sym (best-size t l))) (sym (best-mass t l))

  best-made : Valid t → (f : ℕ) (p : Pool) (c : ℕ) (r : Interned) → c < length t.classes → best_size t c ≤ f → PoolValid p → best_term_in lim f t p c ≡ ok r → Makes (TermFor t ways Itself) p c (best_size t c, 0) r
  unfolding best_term_in
  best-made v zero p c r h a w e = let z = (v.best.best_range c h).0 in absurd (omega arith)
  best-made v (suc f) p c r h a w e = go (eqb (kind_of t (best_member t c).op) Lit) refl e (λ d i q s. let z = best-falls t v c h d i in best-made v f q d.0 s (child-within t v (best_member t c) c (best-in t v c h) d i) (omega arith))
    where
      m : Member
      m = best_member t c

      l : List Two
      l = children_of t m

      as_literal : kind_of t m.op ≡ Lit → Interns p (lit_node m.op m.value) r → Makes (TermFor t ways Itself) p c (best_size t c, 0) r
      as_literal k E = record {
        valid = E.valid;
        grown = E.grown;
        within = E.within;
        good = rw (E.means ∙ tree-literal (trees_after [] p) (lit_node m.op m.value) refl)
            (literal-good v c h k);
      }

      as_node : kind_of t m.op ≢ Lit → (k : Children) → MakesChildren p l k → Interns k.pool (op_node m.op k.runs) r → Makes (TermFor t ways Itself) p c (best_size t c, 0) r
      as_node w k M E =
          let (means, children) = op-means k.pool m.op k.runs r E in record {
            valid = E.valid;
            grown = extends-trans M.grown E.grown;
            within = E.within;
            good = rw means (node-good v c h w (map (tree_at k.pool) (classes k.runs)) _ M.good
                (children ∙ ap (map (tree_at k.pool)) (sym (spread_written k.runs)) ∙ map-spread (tree_at k.pool) (classes k.runs) (counts k.runs) ∙ ap (spread (map (tree_at k.pool) (classes k.runs))) M.same));
          }

      go : (b : Bool) → eqb (kind_of t m.op) Lit ≡ b
          → (elim b [ true ↦ intern lim p (lit_node m.op m.value) | false ↦ child_terms (best_term_in lim f t) p l >>= (λ k. intern lim k.pool (op_node m.op k.runs)) ]) ≡ ok r
          → ((d : Two) → In d l → (q : Pool) (s : Interned) → PoolValid q → best_term_in lim f t q d.0 ≡ ok s → Makes (TermFor t ways Itself) q d.0 (best_size t d.0, 0) s)
          → Makes (TermFor t ways Itself) p c (best_size t c, 0) r
      go true k e ih = as_literal (eqb-true _ _ k) (intern-enters lim p (lit_node m.op m.value) r w (lit-valid (length p) m.op m.value) e)
      go false b e ih =
          let (k, ek, e') = bind_ok (child_terms (best_term_in lim f t) p l) _ r e in
          let M = children-made (best_term_in lim f t) l ih (child-counted t v m c (best-in t v c h)) p k w ek in
          as_node (eqb-false _ _ b) k M (intern-enters lim k.pool (op_node m.op k.runs) r M.valid (op-valid (length k.pool) m.op k.runs M.below) e')

  -- The best term of a class has the class's best size and mass 0, and belongs to the class, read in every way.
  pub best-term : Valid t → (p : Pool) (c : ℕ) (r : Interned) → c < length t.classes → PoolValid p → best_term lim t p c ≡ ok r → Makes (TermFor t ways Itself) p c (best_size t c, 0) r
  best-term v p c r h w e = best-made v (best_size t c) p c r h (omega arith) w e
