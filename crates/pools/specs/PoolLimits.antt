-- "a term beyond [the limit] would be entered": a pool within the limit stays within it.
use Rattle.std.specs.Prelude.{◌≡◌, refl, Bool, true, false, List, [], ◌∷◌, ◌++◌, ℕ, zero, suc, ◌+◌, ◌≤◌, ltb, leb, eqb, length}
use Rattle.std.proofs.Common.{arith, length-append, ltb-true}
use Rattle.spec.specs.Bytes.{pick, both, place, Two, Limits, Res, ok, refused, ◌>>=◌}
use Rattle.spec.specs.Image.{Tables, Member, Lit, kind_of, is_commutative, best_size, best_member, children_of}
use Rattle.spec.specs.System as system
use Rattle.spec.specs.Round.{Choice, stay, act, choice_term, action_term, plan_runs}
use Rattle.spec.specs.Pool.{Pool, Node, Interned, interned, same_node, run_count, intern, op_node, lit_node, variants_node, sort_runs, Children, child_terms, best_term_in, best_term, starting_term}

-- the pool of what is accepted is within the limit
abbrev Fits : Limits → Res Interned → Type 0
Fits lim (ok a) = length a.pool ≤ lim.terms
Fits lim (refused n) = Unit

abbrev AllFit : Limits → Res Children → Type 0
AllFit lim (ok k) = length k.pool ≤ lim.terms
AllFit lim (refused n) = Unit

fits-then : (lim : Limits) (x : Res Interned) (f : Interned → Res Interned) → Fits lim x → ((a : Interned) → length a.pool ≤ lim.terms → Fits lim (f a)) → Fits lim (x >>= f)
fits-then lim (ok a) f h g = g a h
fits-then lim (refused n) f h g = tt

all_then : (lim : Limits) (x : Res Children) (f : Children → Res Interned) → AllFit lim x → ((k : Children) → length k.pool ≤ lim.terms → Fits lim (f k)) → Fits lim (x >>= f)
all_then lim (ok k) f h g = g k h
all_then lim (refused n) f h g = tt

intern-fits : (lim : Limits) (p : Pool) (n : Node) → length p ≤ lim.terms → Fits lim (intern lim p n)
unfolding intern
intern-fits lim p n h = go (ltb (place (same_node n) p) (length p)) (ltb (length p) lim.terms) refl (leb (run_count p + length n.runs) lim.runs)
  where
    go : (x y : Bool) → ltb (length p) lim.terms ≡ y → (z : Bool) → Fits lim (pick x (ok (interned p (place (same_node n) p))) (pick (both y z) (ok (interned (p ++ (n ∷ [])) (length p))) (refused 13)))
    go true y e z = h
    go false true e true = let l = ltb-true (length p) lim.terms e in omega (arith, l, length-append p (n ∷ []))
    go false true e false = tt
    go false false e z = tt

child_fits : (lim : Limits) (f : Pool → ℕ → Res Interned) → ((p : Pool) (c : ℕ) → length p ≤ lim.terms → Fits lim (f p c)) → (p : Pool) (cs : List Two) → length p ≤ lim.terms → AllFit lim (child_terms f p cs)
unfolding child_terms
child_fits lim f g p [] h = h
child_fits lim f g p (c ∷ cs) h = go (f p c.0) (g p c.0 h) (λ a l. child_fits lim f g a.pool cs l)
  where
    last : (a : Interned) (x : Res Children) → AllFit lim x → AllFit lim (x >>= λ m. ok (record { pool = m.pool; runs = (a.term, c.1) ∷ m.runs }))
    last a (ok k) l = l
    last a (refused n) l = tt

    go : (x : Res Interned) → Fits lim x → ((a : Interned) → length a.pool ≤ lim.terms → AllFit lim (child_terms f a.pool cs)) → AllFit lim (x >>= λ a. child_terms f a.pool cs >>= λ m. ok (record { pool = m.pool; runs = (a.term, c.1) ∷ m.runs }))
    go (ok a) l ih = last a (child_terms f a.pool cs) (ih a l)
    go (refused n) l ih = tt

best-fits : (lim : Limits) (f : ℕ) (t : Tables) (p : Pool) (c : ℕ) → length p ≤ lim.terms → Fits lim (best_term_in lim f t p c)
unfolding best_term_in
best-fits lim zero t p c h = h
best-fits lim (suc f) t p c h = go (eqb (kind_of t e.op) Lit) (λ q d. best-fits lim f t q d)
  where
    e : Member
    e = best_member t c

    go : (x : Bool) → ((q : Pool) (d : ℕ) → length q ≤ lim.terms → Fits lim (best_term_in lim f t q d))
        → Fits lim (elim x [ true ↦ intern lim p (lit_node e.op e.value) | false ↦ (child_terms (best_term_in lim f t) p (children_of t e) >>= λ k. intern lim k.pool (op_node e.op k.runs)) ])
    go true ih = intern-fits lim p (lit_node e.op e.value) h
    go false ih = all_then lim (child_terms (best_term_in lim f t) p (children_of t e)) _ (child_fits lim (best_term_in lim f t) ih p (children_of t e) h) (λ k l. intern-fits lim k.pool (op_node e.op k.runs) l)

starting-fits : (lim : Limits) (t : Tables) (p : Pool) (c : Two) → length p ≤ lim.terms → Fits lim (starting_term lim t p c)
unfolding starting_term
starting-fits lim t p c h = go (eqb c.0 c.1)
  where
    go : (x : Bool) → Fits lim (elim x [ true ↦ best_term lim t p c.0 | false ↦ (best_term lim t p c.0 >>= λ a. best_term lim t a.pool c.1 >>= λ b. intern lim b.pool (variants_node a.term b.term)) ])
    go true = best-fits lim (best_size t c.0) t p c.0 h
    go false =
        fits-then lim (best_term lim t p c.0) _ (best-fits lim (best_size t c.0) t p c.0 h)
        (λ a l. fits-then lim (best_term lim t a.pool c.1) _ (best-fits lim (best_size t c.1) t a.pool c.1 l) (λ b k. intern-fits lim b.pool (variants_node a.term b.term) k))

choice-fits : (lim : Limits) (t : Tables) (of : Two → ℕ) (p : Pool) (old : ℕ) (c : Choice) → length p ≤ lim.terms → Fits lim (choice_term lim t of p old c)
unfolding system.choice_term action_term
choice-fits lim t of p old stay h = h
choice-fits lim t of p old (act a) h = let l = plan_runs of a.places a.counts in intern-fits lim p (op_node a.op (pick (is_commutative (kind_of t a.op)) (sort_runs p l) l)) h

fits-pool : (lim : Limits) (x : Res Interned) (a : Interned) → x ≡ ok a → Fits lim x → length a.pool ≤ lim.terms
fits-pool lim x a e h = rw e at h

pub starting-within : (lim : Limits) (t : Tables) (p : Pool) (c : Two) (a : Interned) → length p ≤ lim.terms → starting_term lim t p c ≡ ok a → length a.pool ≤ lim.terms
starting-within lim t p c a h e = fits-pool lim (starting_term lim t p c) a e (starting-fits lim t p c h)

pub choice-within : (lim : Limits) (t : Tables) (of : Two → ℕ) (p : Pool) (old : ℕ) (c : Choice) (a : Interned) → length p ≤ lim.terms → choice_term lim t of p old c ≡ ok a → length a.pool ≤ lim.terms
choice-within lim t of p old c a h e = fits-pool lim (choice_term lim t of p old c) a e (choice-fits lim t of p old c h)
