-- "fuel: the class's best size, for best sizes fall along the best members' children" (spec/Pool): more fuel changes no best term.
use Rattle.std.specs.Prelude.{◌≡◌, Bool, true, false, eqb, length}
use Rattle.std.proofs.Math.Path.{refl}
use Rattle.std.proofs.Common.{ap, arith}
use mathlib.Core.List.{List, [], ◌∷◌}
use Prim.Native.Nat.{ℕ, zero, suc, ◌≤◌, ◌<◌}
use Rattle.spec.specs.Bytes.{In, here, there, Limits, Two, Res, ok, refused, ◌>>=◌}
use Rattle.spec.specs.Image.{Tables, Member, Lit, kind_of, best_size, children_of, best_member}
use Rattle.spec.specs.Pool.{Pool, op_node, lit_node, Interned, intern, Children, child_terms, best_term_in, best_term}
use Rattle.laws.specs.Valid.{Valid}
use Rattle.laws.specs.BestMembers.{best-in, best-falls, child-within}

module _ (lim : Limits) (t : Tables) where
  children-same : (best other : Pool → ℕ → Res Interned) (l : List Two) → ((c : Two) → In c l → (p : Pool) → best p c.0 ≡ other p c.0) → (p : Pool) → child_terms best p l ≡ child_terms other p l
  unfolding child_terms
  children-same best other [] h p = refl
  children-same best other (c ∷ l) h p = rw (h c here p) (go (other p c.0) (λ q. children-same best other l (λ d i. h d (there i)) q))
    where
      joined : Interned → Children → Res Children
      joined a k = ok (record { pool = k.pool; runs = (a.term, c.1) ∷ k.runs })

      go : (m : Res Interned) → ((q : Pool) → child_terms best q l ≡ child_terms other q l)
          → (m >>= (λ a. child_terms best a.pool l >>= (λ k. joined a k))) ≡ (m >>= (λ a. child_terms other a.pool l >>= (λ k. joined a k)))
      go (ok a) ih = rw (ih a.pool) refl
      go (refused n) ih = refl

  fuel-same : Valid t → (f g : ℕ) (p : Pool) (c : ℕ) → c < length t.classes → best_size t c ≤ f → best_size t c ≤ g → best_term_in lim f t p c ≡ best_term_in lim g t p c
  unfolding best_term_in
  fuel-same v zero g p c h a b = let z = (v.best.best_range c h).0 in absurd (omega arith)
  fuel-same v (suc f) zero p c h a b = let z = (v.best.best_range c h).0 in absurd (omega arith)
  fuel-same v (suc f) (suc g) p c h a b =
      go (eqb (kind_of t m.op) Lit)
      (children-same (best_term_in lim f t) (best_term_in lim g t) (children_of t m)
      (λ d i q. let z = best-falls t v c h d i in fuel-same v f g q d.0 (child-within t v m c (best-in t v c h) d i) (omega arith) (omega arith)) p)
    where
      m : Member
      m = best_member t c

      rest : Children → Res Interned
      rest k = intern lim k.pool (op_node m.op k.runs)

      by : Bool → Res Children → Res Interned
      by b k = elim b [ true ↦ intern lim p (lit_node m.op m.value) | false ↦ k >>= rest ]

      go : (b : Bool) → child_terms (best_term_in lim f t) p (children_of t m) ≡ child_terms (best_term_in lim g t) p (children_of t m)
          → by b (child_terms (best_term_in lim f t) p (children_of t m)) ≡ by b (child_terms (best_term_in lim g t) p (children_of t m))
      go true e = refl
      go false e = ap (λ (z : Res Children). z >>= rest) e

  pub best-fuel : Valid t → (f : ℕ) (p : Pool) (c : ℕ) → c < length t.classes → best_size t c ≤ f → best_term_in lim f t p c ≡ best_term lim t p c
  best-fuel v f p c h a = fuel-same v f (best_size t c) p c h a (omega arith)
