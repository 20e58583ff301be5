-- Best terms: building one again changes nothing, and a child's may be built first.
use Rattle.std.specs.Prelude.{◌≡◌, length}
use Rattle.std.proofs.Math.Path.{refl}
use Rattle.std.proofs.Common.{sym, ap, ◌∙◌}
use mathlib.Core.List.{List, [], ◌∷◌, ◌++◌, map}
use Prim.Native.Nat.{ℕ, zero, suc, ◌-◌, ◌≤◌, ◌<◌}
use Rattle.std.proofs.Math.Decide.{ℕ_discrete}
use native.Mathlib.Omega.{arith}
use borrow.Author.Tests.{eq-eqb, ne_eqb}
use Rattle.std.proofs.Math.ListN.{get_or-append}
use Rattle.spec.specs.Bytes.{Limits, Two, Res, ok, refused, ◌>>=◌}
use Rattle.spec.specs.Image.{Tables, Lit, kind_of, best_size, children_of, best_member}
use Rattle.spec.specs.Pool.{Pool, Node, node_at, op_node, lit_node, Interned, interned, intern, Children, child_terms, best_term_in, best_term}
use Rattle.spec.specs.Meaning.{In, here, there}
use Rattle.laws.specs.Valid.{Valid}
use Rattle.laws.specs.Results.{bind_ok, ok-inj}
use Rattle.pools.specs.Pool.{RunsBelow, runs-below-nil, runs-below-cons, PoolValid, op-valid, lit-valid}
use Rattle.pools.specs.PoolIntern.{Extends, extends-refl, extends-trans, extends-within}
use Rattle.pools.proofs.PoolIntern.{intern-enters, intern-there}
use Rattle.laws.specs.BestMembers.{best-in, best-falls, child-within, child-counted}
use Rattle.pools.specs.BestFuel.{best-fuel}

grown-node : {p q : Pool} → Extends p q → (a : ℕ) → a < length p → node_at q a ≡ node_at p a
grown-node {p} g a h = rw g.is (get_or-append p g.later _ a h)

-- what building a class's term in pool p gives: built again, in any later pool, it is the same term, and the pool stays as it is
pub record Again (best : Pool → ℕ → Res Interned) (p : Pool) (c : ℕ) (r : Interned) : Type 0 where
  pub valid : PoolValid r.pool
  pub grown : Extends p r.pool
  pub within : r.term < length r.pool
  pub again : (q : Pool) → Extends r.pool q → PoolValid q → best q c ≡ ok (interned q r.term)

record AgainAll (best : Pool → ℕ → Res Interned) (p : Pool) (l : List Two) (k : Children) : Type 0 where
  valid : PoolValid k.pool
  grown : Extends p k.pool
  below : RunsBelow (length k.pool) k.runs
  again : (q : Pool) → Extends k.pool q → PoolValid q → child_terms best q l ≡ ok (record { pool = q; runs = k.runs })

children-again : (best : Pool → ℕ → Res Interned) (l : List Two) → ((e : Two) → In e l → (p : Pool) (r : Interned) → PoolValid p → best p e.0 ≡ ok r → Again best p e.0 r)
    → ((e : Two) → In e l → 1 ≤ e.1) → (p : Pool) (k : Children) → PoolValid p → child_terms best p l ≡ ok k → AgainAll best p l k
unfolding child_terms
children-again best [] h n p k v e = rw (← ok-inj e) (record { valid = v; grown = extends-refl p; below = runs-below-nil (length p); again = λ q g w. refl })
children-again best (c ∷ l) h n p k v e =
    let (a, ea, e') = bind_ok (best p c.0) _ k e in
    let (m, em, e'') = bind_ok (child_terms best a.pool l) _ k e' in
    let A = h c here p a v ea in
    let M = children-again best l (λ d i. h d (there i)) (λ d i. n d (there i)) a.pool m A.valid em in
    rw (← ok-inj e'') (record {
      valid = M.valid;
      grown = extends-trans A.grown M.grown;
      below = runs-below-cons {r = (a.term, c.1)} (extends-within M.grown a.term A.within) (n c here) M.below;
      again = λ q g w. rw (A.again q (extends-trans M.grown g) w, M.again q g w) refl;
    })

module _ (lim : Limits) (t : Tables) (v : Valid t) where
  children-same : (best other : Pool → ℕ → Res Interned) (l : List Two) → ((e : Two) → In e l → (p : Pool) → best p e.0 ≡ other p e.0) → (p : Pool) → child_terms best p l ≡ child_terms other p l
  unfolding child_terms
  children-same best other [] h p = refl
  children-same best other (c ∷ l) h p = rw (h c here p) (go (other p c.0) (λ q. children-same best other l (λ d i. h d (there i)) q))
    where
      joined : Interned → Children → Res Children
      joined a k = ok (record { pool = k.pool; runs = (a.term, c.1) ∷ k.runs })

      go : (m : Res Interned) → ((q : Pool) → child_terms best q l ≡ child_terms other q l)
          → (m >>= (λ a. child_terms best a.pool l >>= (λ k. joined a k))) ≡ (m >>= (λ a. child_terms other a.pool l >>= (λ k. joined a k)))
      go (ok a) ih = rw (ih a.pool) refl
      go (refused n) ih = refl

  abbrev op_of : ℕ → ℕ
  op_of c = (best_member t c).op

  abbrev kids : ℕ → List Two
  kids c = children_of t (best_member t c)

  -- ---- the definition without its fuel
  pub best-literal : (p : Pool) (c : ℕ) → c < length t.classes → kind_of t (op_of c) ≡ Lit → best_term lim t p c ≡ intern lim p (lit_node (op_of c) (best_member t c).value)
  unfolding best_term_in
  best-literal p c h k = let z = (v.best.best_range c h).0 in let e : best_size t c ≡ suc (best_size t c - 1) = omega arith in rw (e, best_term_in, eq-eqb (kind_of t (op_of c)) Lit k) refl

  pub best-node : (p : Pool) (c : ℕ) → c < length t.classes → (kind_of t (op_of c) ≡ Lit → ⊥) → best_term lim t p c ≡ (child_terms (best_term lim t) p (kids c) >>= (λ k. intern lim k.pool (op_node (op_of c) k.runs)))
  unfolding best_term_in
  best-node p c h k =
      let z = (v.best.best_range c h).0 in
      let e : best_size t c ≡ suc (best_size t c - 1) = omega arith in
      rw (e, best_term_in, ne_eqb (kind_of t (op_of c)) Lit k)
      (ap (λ (m : Res Children). m >>= (λ k. intern lim k.pool (op_node (op_of c) k.runs)))
      (children-same (best_term_in lim (best_size t c - 1) t) (best_term lim t) (kids c)
      (λ d i q. let f = best-falls t v c h d i in best-fuel lim t v (best_size t c - 1) q d.0 (child-within t v (best_member t c) c (best-in t v c h) d i) (omega arith)) p))

  -- ---- building again
  again-in : (N c : ℕ) → best_size t c ≤ N → c < length t.classes → (p : Pool) (r : Interned) → PoolValid p → best_term lim t p c ≡ ok r → Again (best_term lim t) p c r
  again-in zero c n h p r w e = let z = (v.best.best_range c h).0 in absurd (omega arith)
  again-in (suc N) c n h p r w e =
      go (ℕ_discrete (kind_of t (op_of c)) Lit)
      (λ d i q s y u. let f = best-falls t v c h d i in again-in N d.0 (omega arith) (child-within t v (best_member t c) c (best-in t v c h) d i) q s y u)
    where
      there-again : (n : Node) (q : Pool) → node_at r.pool r.term ≡ n → r.term < length r.pool → Extends r.pool q → PoolValid q → intern lim q n ≡ ok (interned q r.term)
      there-again n q e h g w = intern-there lim q n r.term w (extends-within g r.term h) (grown-node g r.term h ∙ e)

      go : Dec (kind_of t (op_of c) ≡ Lit) → ((d : Two) → In d (kids c) → (q : Pool) (s : Interned) → PoolValid q → best_term lim t q d.0 ≡ ok s → Again (best_term lim t) q d.0 s) → Again (best_term lim t) p c r
      go (yes k) ih =
          let E = intern-enters lim p (lit_node (op_of c) (best_member t c).value) r w (lit-valid (length p) (op_of c) (best_member t c).value) (sym (best-literal p c h k) ∙ e) in record {
            valid = E.valid;
            grown = E.grown;
            within = E.within;
            again = λ q g y. best-literal q c h k ∙ there-again (lit_node (op_of c) (best_member t c).value) q E.entry E.within g y;
          }
      go (no k) ih =
          let (m, em, e') = bind_ok (child_terms (best_term lim t) p (kids c)) _ r (sym (best-node p c h k) ∙ e) in
          let M = children-again (best_term lim t) (kids c) ih (child-counted t v (best_member t c) c (best-in t v c h)) p m w em in
          let E = intern-enters lim m.pool (op_node (op_of c) m.runs) r M.valid (op-valid (length m.pool) (op_of c) m.runs M.below) e' in record {
            valid = E.valid;
            grown = extends-trans M.grown E.grown;
            within = E.within;
            again = λ q g y. best-node q c h k ∙ rw (M.again q (extends-trans E.grown g) y) (there-again (op_node (op_of c) m.runs) q E.entry E.within g y);
          }

  -- A class's best term, built again in a later pool, is the same term, and the pool stays as it is.
  pub best-again : (p : Pool) (c : ℕ) (r : Interned) → c < length t.classes → PoolValid p → best_term lim t p c ≡ ok r → Again (best_term lim t) p c r
  best-again p c r h w e = again-in (best_size t c) c (omega arith) h p r w e

  -- ---- a child's term built first
  module _ (p : Pool) (w : PoolValid p) (x : Two) (hx : x.0 < length t.classes) (T : ℕ → ℕ) where
    first-ok : (a : Interned) → best_term lim t p x.0 ≡ ok a → (es ls : List Two) → ((e : Two) → In e es → (e.0 < length t.classes) × (best_term lim t p e.0 ≡ ok (interned p (T e.0))))
        → child_terms (best_term lim t) p (es ++ (x ∷ ls)) ≡ child_terms (best_term lim t) a.pool (es ++ (x ∷ ls))
    unfolding child_terms
    first-ok a q [] ls h = let A = best-again p x.0 a hx w q in rw (q, A.again a.pool (extends-refl a.pool) A.valid) refl
    first-ok a q (e ∷ es) ls h =
        let A = best-again p x.0 a hx w q in
        let (he, be) = h e here in
        let b : best_term lim t a.pool e.0 ≡ ok (interned a.pool (T e.0)) = (best-again p e.0 (interned p (T e.0)) he w be).again a.pool A.grown A.valid in
        rw (be, b, first-ok a q es ls (λ d i. h d (there i))) refl

    first-refused : (n : ℕ) → best_term lim t p x.0 ≡ refused n → (es ls : List Two) → ((e : Two) → In e es → (e.0 < length t.classes) × (best_term lim t p e.0 ≡ ok (interned p (T e.0))))
        → child_terms (best_term lim t) p (es ++ (x ∷ ls)) ≡ refused n
    unfolding child_terms
    first-refused n q [] ls h = rw q refl
    first-refused n q (e ∷ es) ls h = let (he, be) = h e here in rw (be, first-refused n q es ls (λ d i. h d (there i))) refl

    module _ (c : ℕ) (hc : c < length t.classes) (k : kind_of t (op_of c) ≡ Lit → ⊥) (es ls : List Two) (split : kids c ≡ es ++ (x ∷ ls)) (h : (e : Two) → In e es → (e.0 < length t.classes) × (best_term lim t p e.0 ≡ ok (interned p (T e.0)))) where
      pub down-ok : (a : Interned) → best_term lim t p x.0 ≡ ok a → best_term lim t p c ≡ best_term lim t a.pool c
      down-ok a q = best-node p c hc k ∙ rw (split, first-ok a q es ls h, ← split) (sym (best-node a.pool c hc k))

      pub down-refused : (n : ℕ) → best_term lim t p x.0 ≡ refused n → best_term lim t p c ≡ refused n
      down-refused n q = best-node p c hc k ∙ rw (split, first-refused n q es ls h) refl

  -- ---- all children built
  pub children-built : (p : Pool) (T : ℕ → ℕ) (l : List Two) → ((e : Two) → In e l → best_term lim t p e.0 ≡ ok (interned p (T e.0))) → child_terms (best_term lim t) p l ≡ ok (record { pool = p; runs = map (λ e. (T e.0, e.1)) l })
  unfolding child_terms
  children-built p T [] h = refl
  children-built p T (e ∷ l) h = rw (h e here, children-built p T l (λ d i. h d (there i))) refl

-- ---- what is left to do: the class at hand, then the classes that wait for it
unfoldable pub onward : Limits → Tables → List ℕ → Interned → Res Interned
unfolding best_term_in
onward lim t [] a = ok a
onward lim t (c ∷ st) a = best_term lim t a.pool c >>= onward lim t st

module _ (lim : Limits) (t : Tables) where
  pub onward-end : (m : Res Interned) → (m >>= onward lim t []) ≡ m
  unfolding onward
  onward-end (ok a) = refl
  onward-end (refused n) = refl

  pub onward-down : (p : Pool) (c x : ℕ) (st : List ℕ) → ((a : Interned) → best_term lim t p x ≡ ok a → best_term lim t p c ≡ best_term lim t a.pool c) → ((n : ℕ) → best_term lim t p x ≡ refused n → best_term lim t p c ≡ refused n)
      → (best_term lim t p c >>= onward lim t st) ≡ (best_term lim t p x >>= onward lim t (c ∷ st))
  unfolding onward
  onward-down p c x st f g = go (best_term lim t p x) refl
    where
      go : (m : Res Interned) → best_term lim t p x ≡ m → (best_term lim t p c >>= onward lim t st) ≡ (m >>= onward lim t (c ∷ st))
      go (ok a) e = rw (f a e) refl
      go (refused n) e = rw (g n e) refl

  pub onward-up : (p : Pool) (c q : ℕ) (st : List ℕ) (a : Interned) → best_term lim t p c ≡ ok a → (best_term lim t p c >>= onward lim t (q ∷ st)) ≡ (best_term lim t a.pool q >>= onward lim t st)
  unfolding onward
  onward-up p c q st a e = rw e refl

  pub onward-refused : (p : Pool) (c : ℕ) (st : List ℕ) (n : ℕ) → best_term lim t p c ≡ refused n → (best_term lim t p c >>= onward lim t st) ≡ refused n
  onward-refused p c st n e = rw e refl
