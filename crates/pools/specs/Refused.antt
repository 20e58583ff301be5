-- What the pool refuses: 13 alone, and under limits that are no less nothing more.
use Rattle.std.specs.Prelude.{◌≡◌, ltb, leb, eqb}
use Rattle.std.proofs.Math.Path.{refl}
use Rattle.std.proofs.Common.{sym, arith, ltb-true, leb-true, lt-ltb, le-leb}
use Rattle.std.proofs.Math.Bool.{Bool, true, false}
use mathlib.Core.List.{List, [], ◌∷◌, ◌++◌}
use Prim.Native.Nat.{ℕ, zero, suc, ◌+◌, ◌≤◌}
use Rattle.std.proofs.Math.ListN.{length}
use Rattle.spec.specs.Bytes.{pick, both, place, Two, Limits, Res, ok, refused, ◌>>=◌}
use Rattle.spec.specs.Image.{Tables, Member, Lit, kind_of, is_commutative, best_size, best_member, children_of}
use Rattle.spec.specs.Pool.{Pool, Node, Interned, interned, same_node, run_count, intern, op_node, lit_node, variants_node, sort_runs, child_terms, best_term_in, best_term, starting_term}
use Rattle.spec.specs.Pairs.{action_term}
use Rattle.laws.specs.Results.{refused-inj, Only13, only-ok, only-bind, Kept, kept-bind, kept-room}

-- ---- 13 alone
intern-only : (lim : Limits) (p : Pool) (n : Node) → Only13 (intern lim p n)
unfolding intern
intern-only lim p n = go (ltb (place (same_node n) p) (length p)) (both (ltb (length p) lim.terms) (leb (run_count p + length n.runs) lim.runs))
  where
    go : (x y : Bool) → Only13 (pick x (ok (interned p (place (same_node n) p))) (pick y (ok (interned (p ++ (n ∷ [])) (length p))) (refused 13)))
    go true y = only-ok (interned p (place (same_node n) p))
    go false true = only-ok (interned (p ++ (n ∷ [])) (length p))
    go false false = λ k e. sym (refused-inj e)

child-only : (best : Pool → ℕ → Res Interned) → ((p : Pool) (c : ℕ) → Only13 (best p c)) → (p : Pool) (l : List Two) → Only13 (child_terms best p l)
unfolding child_terms
child-only best h p [] = only-ok (record { pool = p; runs = [] })
child-only best h p (c ∷ l) =
    only-bind (best p c.0) _ (h p c.0) (λ a. only-bind (child_terms best a.pool l) _ (child-only best h a.pool l) (λ m. only-ok (record { pool = m.pool; runs = (a.term, c.1) ∷ m.runs })))

best-only : (lim : Limits) (f : ℕ) (t : Tables) (p : Pool) (c : ℕ) → Only13 (best_term_in lim f t p c)
unfolding best_term_in
best-only lim zero t p c = only-ok (interned p 0)
best-only lim (suc f) t p c = go (eqb (kind_of t m.op) Lit) (λ q d. best-only lim f t q d)
  where
    m : Member
    m = best_member t c

    go : (x : Bool) → ((q : Pool) (d : ℕ) → Only13 (best_term_in lim f t q d)) → Only13 {A = Interned} (elim x [ true ↦ intern lim p (lit_node m.op m.value) | false ↦ (child_terms (best_term_in lim f t) p (children_of t m) >>= λ k. intern lim k.pool (op_node m.op k.runs)) ])
    go true ih = intern-only lim p (lit_node m.op m.value)
    go false ih = only-bind (child_terms (best_term_in lim f t) p (children_of t m)) _ (child-only (best_term_in lim f t) ih p (children_of t m)) (λ k. intern-only lim k.pool (op_node m.op k.runs))

pub start-only : (lim : Limits) (t : Tables) (p : Pool) (c : Two) → Only13 (starting_term lim t p c)
unfolding starting_term
start-only lim t p c = go (eqb c.0 c.1)
  where
    go : (x : Bool) → Only13 {A = Interned} (elim x [ true ↦ best_term lim t p c.0 | false ↦ (best_term lim t p c.0 >>= λ a. best_term lim t a.pool c.1 >>= λ b. intern lim b.pool (variants_node a.term b.term)) ])
    go true = best-only lim (best_size t c.0) t p c.0
    go false =
        only-bind (best_term lim t p c.0) _ (best-only lim (best_size t c.0) t p c.0)
        (λ a. only-bind (best_term lim t a.pool c.1) _ (best-only lim (best_size t c.1) t a.pool c.1) (λ b. intern-only lim b.pool (variants_node a.term b.term)))

pub action-only : (lim : Limits) (t : Tables) (p : Pool) (o : ℕ) (l : List Two) → Only13 (action_term lim t p o l)
unfolding action_term
action-only lim t p o l = intern-only lim p (op_node o (pick (is_commutative (kind_of t o)) (sort_runs p l) l))

-- ---- larger limits
-- no limit of l is above that of m
pub record NoLess (l m : Limits) : Type 0 where
  pub pairs : l.pairs ≤ m.pairs
  pub terms : l.terms ≤ m.terms
  pub runs : l.runs ≤ m.runs

-- the limits of terms and runs alone, since the pool does not read that of pairs
module _ (l m : Limits) (h : l.terms ≤ m.terms) (k : l.runs ≤ m.runs) where
  pub intern-kept : (p : Pool) (n : Node) → Kept (intern l p n) (intern m p n)
  unfolding intern
  intern-kept p n = kept-room 13 (interned p (place (same_node n) p)) (interned (p ++ (n ∷ [])) (length p)) (ltb (place (same_node n) p) (length p)) (room l) (room m) (go (ltb (length p) l.terms) refl (leb (run_count p + length n.runs) l.runs) refl)
    where
      room : Limits → Bool
      room k = both (ltb (length p) k.terms) (leb (run_count p + length n.runs) k.runs)

      go : (x : Bool) → ltb (length p) l.terms ≡ x → (y : Bool) → leb (run_count p + length n.runs) l.runs ≡ y → both x y ≡ true → room m ≡ true
      go true a true b e = rw (lt-ltb (length p) m.terms (omega (arith, ltb-true (length p) l.terms a, h)), le-leb (run_count p + length n.runs) m.runs (omega (arith, leb-true (run_count p + length n.runs) l.runs b, k))) refl
      go true a false b e = absurd (let z : ◌≡◌ {A = ℕ} 0 1 = cc in omega arith)
      go false a y b e = absurd (let z : ◌≡◌ {A = ℕ} 0 1 = cc in omega arith)

  child-kept : (f g : Pool → ℕ → Res Interned) → ((p : Pool) (c : ℕ) → Kept (f p c) (g p c)) → (p : Pool) (cs : List Two) → Kept (child_terms f p cs) (child_terms g p cs)
  unfolding child_terms
  child-kept f g k p [] = refl
  child-kept f g k p (c ∷ cs) = kept-bind (f p c.0) (g p c.0) _ _ (k p c.0) (λ a. kept-bind (child_terms f a.pool cs) (child_terms g a.pool cs) _ _ (child-kept f g k a.pool cs) (λ r. refl))

  best-kept : (f : ℕ) (t : Tables) (p : Pool) (c : ℕ) → Kept (best_term_in l f t p c) (best_term_in m f t p c)
  unfolding best_term_in
  best-kept zero t p c = refl
  best-kept (suc f) t p c = go (eqb (kind_of t e.op) Lit) (λ q d. best-kept f t q d)
    where
      e : Member
      e = best_member t c

      go : (x : Bool) → ((q : Pool) (d : ℕ) → Kept (best_term_in l f t q d) (best_term_in m f t q d)) → Kept {A = Interned}
          (elim x [ true ↦ intern l p (lit_node e.op e.value) | false ↦ (child_terms (best_term_in l f t) p (children_of t e) >>= λ k. intern l k.pool (op_node e.op k.runs)) ])
          (elim x [ true ↦ intern m p (lit_node e.op e.value) | false ↦ (child_terms (best_term_in m f t) p (children_of t e) >>= λ k. intern m k.pool (op_node e.op k.runs)) ])
      go true ih = intern-kept p (lit_node e.op e.value)
      go false ih = kept-bind (child_terms (best_term_in l f t) p (children_of t e)) (child_terms (best_term_in m f t) p (children_of t e)) _ _ (child-kept (best_term_in l f t) (best_term_in m f t) ih p (children_of t e)) (λ k. intern-kept k.pool (op_node e.op k.runs))

module _ (l m : Limits) (terms : l.terms ≤ m.terms) (runs : l.runs ≤ m.runs) where
  pub start-larger : (t : Tables) (p : Pool) (c : Two) → Kept (starting_term l t p c) (starting_term m t p c)
  unfolding starting_term
  start-larger t p c = go (eqb c.0 c.1)
    where
      go : (x : Bool) → Kept {A = Interned}
          (elim x [ true ↦ best_term l t p c.0 | false ↦ (best_term l t p c.0 >>= λ a. best_term l t a.pool c.1 >>= λ b. intern l b.pool (variants_node a.term b.term)) ])
          (elim x [ true ↦ best_term m t p c.0 | false ↦ (best_term m t p c.0 >>= λ a. best_term m t a.pool c.1 >>= λ b. intern m b.pool (variants_node a.term b.term)) ])
      go true = best-kept l m terms runs (best_size t c.0) t p c.0
      go false =
          kept-bind (best_term l t p c.0) (best_term m t p c.0) _ _ (best-kept l m terms runs (best_size t c.0) t p c.0)
          (λ a. kept-bind (best_term l t a.pool c.1) (best_term m t a.pool c.1) _ _ (best-kept l m terms runs (best_size t c.1) t a.pool c.1) (λ b. intern-kept l m terms runs b.pool (variants_node a.term b.term)))

  pub action-larger : (t : Tables) (p : Pool) (o : ℕ) (r : List Two) → Kept (action_term l t p o r) (action_term m t p o r)
  unfolding action_term
  action-larger t p o r = intern-kept l m terms runs p (op_node o (pick (is_commutative (kind_of t o)) (sort_runs p r) r))
