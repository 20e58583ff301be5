-- What lines that are read hold: a valid pool, whose marked places have two branches, within the limits.
use Rattle.std.specs.Prelude.{◌≡◌, refl, ◌≢◌, ◌⊎◌, Bool, true, false, List, [], ◌∷◌, ◌++◌, map, ℕ, zero, suc, ◌+◌, ◌-◌, ◌≤◌, ◌<◌, ltb, leb, eqb, length, drop}
use Rattle.std.proofs.Common.{sym, ap, ◌∙◌, inl, inr, not-suc-le-zero, eq-or-lt_of_le, arith, length-append, ltb-true, leb-true, eqb-true}
use Rattle.std.proofs.lemmas.List.{length-map}
use Rattle.std.proofs.Math.ListN.{get_or-append}
use Rattle.std.proofs.lemmas.Bool.{eqb-false}
use Rattle.spec.specs.Bytes.{pick, both, place, sum, Two, text, decimal, Limits, Res, ok, refused, rule, ◌>>=◌}
use Rattle.spec.specs.Pool.{Pool, Node, node_at, OP, LIT, VARIANTS, RUNS, expanded_length, same_node, run_count, Interned, interned, intern}
use Rattle.spec.specs.Meaning.{In, here, there, Term, Branched, AllBranched, no_branch, and_branch, at_literal, at_node, at_place, expand, tree_at, tree_of, trees_after, runs_of}
use Rattle.laws.specs.Tests.{both_true, clash}
use Rattle.laws.specs.Results.{bind_ok, ok-inj, refused-ok}
use Rattle.laws.specs.Bag.{map-append, sum-append}
use Rattle.laws.specs.BagCount.{written, written-length}
use Rattle.pools.specs.Pool.{Joined, none, one, more, RunsBelow, runs-below-nil, runs-below-cons, Formed, operation, literal, marked, NodeValid, PoolValid, empty-valid, get_d-last, numbered, tree-operation, tree-literal, tree-marked}
use Rattle.pools.specs.PoolTrees.{tree_is, expand-runs}
use Rattle.pools.proofs.PoolIntern.{intern-enters}
use Rattle.formula.specs.Lexer.{lead, starts_with, is_nil}
use Rattle.formula.specs.Lines.{cut_word, cut_number, cut_runs, runs_at, cut_node, cut_line, add_lines, read_lines, CHILDREN}
use Rattle.formula_laws.specs.Terms.{written_below}

-- a rule of a `do` block that was passed
pub passed : {A : Type 0} (n : ℕ) (b : Bool) (m : Res A) (x : A) → (rule n b >>= λ _. m) ≡ ok x → (b ≡ true) × (m ≡ ok x)
passed n true m x e = (refl, e)
passed n false m x e = absurd (refused-ok e)

-- ---- the runs of a line
pub record Cuts (k last left free : ℕ) (l : List Two) : Type 0 where
  pub below : RunsBelow k l
  pub joined : Joined l
  pub apart : (r : Two) (m : List Two) → l ≡ r ∷ m → r.0 ≢ last
  pub light : expanded_length l ≤ left
  pub few : length l ≤ free

nil-cons : {A : Type 0} {x : A} {l : List A} → [] ≡ x ∷ l → ⊥
nil-cons {x = x} {l = l} e = let z : ◌≡◌ {A = ℕ} 0 (suc (length l)) = ap length e in omega (arith, z)

head-is : {r s : Two} {l m : List Two} → r ∷ l ≡ s ∷ m → r ≡ s
head-is {r} e = ap (λ (z : List Two). first z) e
  where
    first : List Two → Two
    first [] = r
    first (x ∷ l) = x

number-most : (most : ℕ) (s : List ℕ) (x : ℕ × List ℕ) → cut_number most s ≡ ok x → x.0 ≤ most
unfolding cut_number
number-most most s x e = go _ refl e
  where
    go : (b : Bool) → both (leb (lead 0 s) most) (starts_with (decimal (lead 0 s)) s) ≡ b
        → pick b (ok (lead 0 s, drop (length (decimal (lead 0 s))) s)) (refused 17) ≡ ok x → x.0 ≤ most
    go true h e = rw (← ok-inj e) (leb-true (lead 0 s) most ((both_true _ _).0 h).0)
    go false h e = absurd (refused-ok e)

cons-joined : (r : Two) (l : List Two) → Joined l → ((s : Two) (m : List Two) → l ≡ s ∷ m → s.0 ≢ r.0) → Joined (r ∷ l)
cons-joined r [] j h = one
cons-joined r (s ∷ l) j h = more (λ e. h s l refl (sym e)) j

not_equal : (a b : ℕ) → pick (eqb a b) false true ≡ true → a ≢ b
not_equal a b e = go (eqb a b) refl e
  where
    go : (x : Bool) → eqb a b ≡ x → pick x false true ≡ true → a ≢ b
    go true p q = absurd (clash (sym q))
    go false p q = eqb-false a b p

pub cut-runs : (f k last left free : ℕ) (s : List ℕ) (x : List Two × List ℕ) → cut_runs f k last left free s ≡ ok x → Cuts k last left free x.0
unfolding cut_runs sum
cut-runs zero k last left free s x e = absurd (refused-ok e)
cut-runs (suc f) k last left free s x e = go (starts_with (10 ∷ []) s) e (λ k last left free s x h. cut-runs f k last left free s x h)
  where
    last_step : ℕ → ℕ → List Two × List ℕ → Res (List Two × List ℕ)
    last_step c n l = ok ((c, n) ∷ l.0, l.1)

    counted : ℕ → ℕ × List ℕ → Res (List Two × List ℕ)
    counted c n = rule 17 (ltb 0 n.0) >>= λ _. rule 13 (ltb 0 free) >>= λ _. cut_runs f k c (left - n.0) (free - 1) n.1 >>= last_step c n.0

    colon : ℕ → List ℕ → Res (List Two × List ℕ)
    colon c b = cut_number left b >>= counted c

    child : ℕ × List ℕ → Res (List Two × List ℕ)
    child c = rule 17 (both (ltb c.0 k) (pick (eqb c.0 last) false true)) >>= λ _. cut_word (text ":") c.1 >>= colon c.0

    spaced : List ℕ → Res (List Two × List ℕ)
    spaced a = cut_number 16383 a >>= child

    rest : Res (List Two × List ℕ)
    rest = cut_word (text " ") s >>= spaced

    go : (b : Bool) → (elim b [ true ↦ ok ([], drop 1 s) | false ↦ rest ]) ≡ ok x
        → ((k last left free : ℕ) (s : List ℕ) (x : List Two × List ℕ) → cut_runs f k last left free s ≡ ok x → Cuts k last left free x.0) → Cuts k last left free x.0
    go true e ih = rw (← ok-inj e) (record { below = runs-below-nil k; joined = none; apart = λ r m z. absurd (nil-cons z); light = omega arith; few = omega arith })
    go false e ih =
        let (a, _, e₁) = bind_ok (cut_word (text " ") s) spaced x e in
        let (c, _, e₂) = bind_ok (cut_number 16383 a) child x e₁ in
        let (p, e₃) = passed 17 (both (ltb c.0 k) (pick (eqb c.0 last) false true)) (cut_word (text ":") c.1 >>= colon c.0) x e₂ in
        let (b, _, e₄) = bind_ok (cut_word (text ":") c.1) (colon c.0) x e₃ in
        let (n, en, e₅) = bind_ok (cut_number left b) (counted c.0) x e₄ in
        let (q, e₆) = passed 17 (ltb 0 n.0) (rule 13 (ltb 0 free) >>= λ _. cut_runs f k c.0 (left - n.0) (free - 1) n.1 >>= last_step c.0 n.0) x e₅ in
        let (r, e₇) = passed 13 (ltb 0 free) (cut_runs f k c.0 (left - n.0) (free - 1) n.1 >>= last_step c.0 n.0) x e₆ in
        let (l, el, e₈) = bind_ok (cut_runs f k c.0 (left - n.0) (free - 1) n.1) (last_step c.0 n.0) x e₇ in
        let u = ih k c.0 (left - n.0) (free - 1) n.1 l el in
        let (p₁, p₂) = (both_true (ltb c.0 k) _).0 p in
        let small = number-most left b n en in
        let some = ltb-true 0 n.0 q in
        let room = ltb-true 0 free r in
        rw (← ok-inj e₈) (record {
          below = runs-below-cons (ltb-true c.0 k p₁) some u.below;
          joined = cons-joined (c.0, n.0) l.0 u.joined u.apart;
          apart = λ y m z. let w : (c.0, n.0) ≡ y = head-is z in rw (← w) (not_equal c.0 last p₂);
          light = omega (arith, u.light, small);
          few = omega (arith, u.few, room);
        })

-- ---- a line's term
pub record Read (k : ℕ) (n : Node) : Type 0 where
  pub valid : NodeValid k n
  pub branches : n.head ≡ VARIANTS → expanded_length n.runs ≡ 2
  pub operations : n.op ≤ 63
  pub value : n.value ≤ 4294967295
  pub light : expanded_length n.runs ≤ CHILDREN
  pub few : length n.runs ≤ RUNS

zero-two : ◌≡◌ {A = ℕ} 0 2 → ⊥
zero-two e = omega (arith, e)

one-two : ◌≡◌ {A = ℕ} 1 2 → ⊥
one-two e = omega (arith, e)

pub cut-node : (k : ℕ) (s : List ℕ) (x : Node × List ℕ) → cut_node k s ≡ ok x → Read k x.0
unfolding cut_node sum
cut-node k s x e = first (starts_with (text " lit ") s) e
  where
    Lits : Res (Node × List ℕ)
    Lits = do
      a ← cut_word (text " lit ") s
      o ← cut_number 63 a
      b ← cut_word (text " ") o.1
      v ← cut_number 4294967295 b
      e ← cut_word (10 ∷ []) v.1
      ok (record { head = LIT; op = o.0; value = v.0; runs = [] }, e)

    Ops : Res (Node × List ℕ)
    Ops = do
      a ← cut_word (text " op ") s
      o ← cut_number 63 a
      l ← runs_at k o.1
      ok (record { head = OP; op = o.0; value = 0; runs = l.0 }, l.1)

    Marks : Res (Node × List ℕ)
    Marks = do
      a ← cut_word (text " variants") s
      l ← runs_at k a
      _ ← rule 17 (eqb (expanded_length l.0) 2)
      ok (record { head = VARIANTS; op = 0; value = 0; runs = l.0 }, l.1)

    second : (b : Bool) → (elim b [ true ↦ Ops | false ↦ Marks ]) ≡ ok x → Read k x.0
    second true e =
        let (a, _, e₁) = bind_ok (cut_word (text " op ") s) _ x e in
        let (o, eo, e₂) = bind_ok (cut_number 63 a) _ x e₁ in
        let (l, el, e₃) = bind_ok (runs_at k o.1) _ x e₂ in
        let u = cut-runs (suc (length o.1)) k k CHILDREN RUNS o.1 l el in
        let small = number-most 63 a o eo in
        rw (← ok-inj e₃) (record { valid = record { formed = operation refl refl; below = u.below; joined = u.joined }; branches = λ z. absurd (zero-two z); operations = small; value = omega arith; light = u.light; few = u.few })
    second false e =
        let (a, _, e₁) = bind_ok (cut_word (text " variants") s) _ x e in
        let (l, el, e₂) = bind_ok (runs_at k a) _ x e₁ in
        let (p, e₃) = passed 17 (eqb (expanded_length l.0) 2) (ok (record { head = VARIANTS; op = 0; value = 0; runs = l.0 }, l.1)) x e₂ in
        let u = cut-runs (suc (length a)) k k CHILDREN RUNS a l el in
        let z : ◌≡◌ {A = Node × List ℕ} (record { head = VARIANTS; op = 0; value = 0; runs = l.0 }, l.1) x = ok-inj e₃ in
        rw (← z) (record { valid = record { formed = marked refl refl refl; below = u.below; joined = u.joined }; branches = λ z. eqb-true (expanded_length l.0) 2 p; operations = omega arith; value = omega arith; light = u.light; few = u.few })

    first : (b : Bool) → (elim b [ true ↦ Lits | false ↦ elim (starts_with (text " op ") s) [ true ↦ Ops | false ↦ Marks ] ]) ≡ ok x → Read k x.0
    first true e =
        let (a, _, e₁) = bind_ok (cut_word (text " lit ") s) _ x e in
        let (o, eo, e₂) = bind_ok (cut_number 63 a) _ x e₁ in
        let (b, _, e₃) = bind_ok (cut_word (text " ") o.1) _ x e₂ in
        let (v, ev, e₄) = bind_ok (cut_number 4294967295 b) _ x e₃ in
        let (w, _, e₅) = bind_ok (cut_word (10 ∷ []) v.1) _ x e₄ in
        let small = number-most 63 a o eo in
        let value = number-most 4294967295 b v ev in
        rw (← ok-inj e₅) (record { valid = record { formed = literal refl refl; below = runs-below-nil k; joined = none }; branches = λ z. absurd (one-two z); operations = small; value = value; light = omega arith; few = omega arith })
    first false e = second (starts_with (text " op ") s) e

pub cut-line : (k : ℕ) (s : List ℕ) (x : Node × List ℕ) → cut_line k s ≡ ok x → Read k x.0
unfolding cut_line
cut-line k s x e = let (a, _, e₁) = bind_ok (cut_word (decimal k) s) _ x e in cut-node k a x e₁

-- ---- line after line
-- a node that gets the number behind the pool is added to it, within the limits
pub record New (lim : Limits) (p : Pool) (n : Node) (x : Interned) : Type 0 where
  pub pool : x.pool ≡ p ++ (n ∷ [])
  pub terms : length p < lim.terms
  pub runs : run_count p + length n.runs ≤ lim.runs

pub interned-new : (lim : Limits) (p : Pool) (n : Node) (x : Interned) → intern lim p n ≡ ok x → x.term ≡ length p → New lim p n x
unfolding intern
interned-new lim p n x e t = go (ltb (place (same_node n) p) (length p)) refl (both (ltb (length p) lim.terms) (leb (run_count p + length n.runs) lim.runs)) refl e
  where
    go : (a : Bool) → ltb (place (same_node n) p) (length p) ≡ a → (b : Bool) → both (ltb (length p) lim.terms) (leb (run_count p + length n.runs) lim.runs) ≡ b
        → pick a (ok (interned p (place (same_node n) p))) (pick b (ok (interned (p ++ (n ∷ [])) (length p))) (refused 13)) ≡ ok x → New lim p n x
    go true h b k e = let l = ltb-true (place (same_node n) p) (length p) h in let z : place (same_node n) p ≡ x.term = ap (λ (y : Interned). y.term) (ok-inj e) in absurd (omega (arith, z, t, l))
    go false h true k e = let (u, v) = (both_true (ltb (length p) lim.terms) _).0 k in record { pool = sym (ap (λ (y : Interned). y.pool) (ok-inj e)); terms = ltb-true (length p) lim.terms u; runs = leb-true (run_count p + length n.runs) lim.runs v }
    go false h false k e = absurd (refused-ok e)

-- a valid pool of terms that were read, within the limits
pub record Lined (lim : Limits) (p : Pool) : Type 0 where
  pub valid : PoolValid p
  pub reads : (i : ℕ) → i < length p → Read i (node_at p i)
  pub terms : length p ≤ lim.terms
  pub runs : run_count p ≤ lim.runs

lined-empty : (lim : Limits) → Lined lim []
unfolding run_count sum
lined-empty lim = record { valid = empty-valid; reads = λ i h. absurd (not-suc-le-zero h); terms = omega arith; runs = omega arith }

lined-more : (lim : Limits) (p : Pool) (n : Node) (x : Interned) → Lined lim p → Read (length p) n → intern lim p n ≡ ok x → x.term ≡ length p → Lined lim x.pool
unfolding run_count sum
lined-more lim p n x L R e t = record {
  valid = (intern-enters lim p n x L.valid R.valid e).valid;
  reads = λ i h. rw N.pool (at i (eq-or-lt_of_le {n = i} {m = length p} (let z : length x.pool ≡ length (p ++ (n ∷ [])) = ap length N.pool in omega (arith, length-append p (n ∷ []), z))));
  terms = let z : length x.pool ≡ length (p ++ (n ∷ [])) = ap length N.pool in omega (arith, length-append p (n ∷ []), z, N.terms);
  runs = rw (N.pool, map-append (λ (m : Node). length m.runs) p (n ∷ []), sum-append (map (λ (m : Node). length m.runs) p) (length n.runs ∷ [])) (omega (arith, N.runs));
}
  where
    N : New lim p n x
    N = interned-new lim p n x e t

    at : (i : ℕ) → (i ≡ length p) ⊎ (i < length p) → Read i (node_at (p ++ (n ∷ [])) i)
    at i (inl z) = rw (z, get_d-last p n (record { head = 0; op = 0; value = 0; runs = [] })) R
    at i (inr h) = rw (get_or-append p (n ∷ []) (record { head = 0; op = 0; value = 0; runs = [] }) i h) (L.reads i h)

add-lined : (lim : Limits) (f : ℕ) (p : Pool) (s : List ℕ) (q : Pool) → Lined lim p → add_lines lim f p s ≡ ok q → Lined lim q
unfolding add_lines
add-lined lim zero p s q L e = go (is_nil s) e
  where
    go : (b : Bool) → pick b (ok p) (refused 17) ≡ ok q → Lined lim q
    go true e = rw (← ok-inj e) L
    go false e = absurd (refused-ok e)
add-lined lim (suc f) p s q L e = go (is_nil s) e (λ p s q L h. add-lined lim f p s q L h)
  where
    rest : Res Pool
    rest = do
      n ← cut_line (length p) s
      x ← intern lim p n.0
      _ ← rule 17 (eqb x.term (length p))
      add_lines lim f x.pool n.1

    go : (b : Bool) → (elim b [ true ↦ ok p | false ↦ rest ]) ≡ ok q → ((p : Pool) (s : List ℕ) (q : Pool) → Lined lim p → add_lines lim f p s ≡ ok q → Lined lim q) → Lined lim q
    go true e ih = rw (← ok-inj e) L
    go false e ih =
        let (n, en, e₁) = bind_ok (cut_line (length p) s) _ q e in
        let (x, ex, e₂) = bind_ok (intern lim p n.0) _ q e₁ in
        let (t, e₃) = passed 17 (eqb x.term (length p)) (add_lines lim f x.pool n.1) q e₂ in
        ih x.pool n.1 q (lined-more lim p n.0 x L (cut-line (length p) s n en) ex (eqb-true x.term (length p) t)) e₃

-- What is read of lines: a valid pool within the limits, with a last term.
pub read-lined : (lim : Limits) (s : List ℕ) (p : Pool) → read_lines lim s ≡ ok p → Lined lim p × (0 < length p)
unfolding read_lines
read-lined lim s p e =
    let (q, eq, e₁) = bind_ok (add_lines lim (length s) [] s) _ p e in
    let (t, e₂) = passed 17 (ltb 0 (length q)) (ok q) p e₁ in
    rw (← ok-inj e₂) (add-lined lim (length s) [] s q (lined-empty lim) eq, ltb-true 0 (length q) t)

-- ---- "a marked place has two branches", everywhere in a term
module _ (lim : Limits) (p : Pool) (L : Lined lim p) where
  all-branched : (l : List ℕ) → ((c : ℕ) → In c l → Branched 2 (tree_at p c)) → AllBranched 2 (map (tree_at p) l)
  all-branched [] h = no_branch
  all-branched (c ∷ l) h = and_branch (h c here) (all-branched l (λ d i. h d (there i)))

  branched-below : (f a : ℕ) → a < f → a < length p → Branched 2 (tree_at p a)
  branched-below zero a k h = absurd (not-suc-le-zero k)
  branched-below (suc f) a k h = rw (tree_is p L.valid a h) (go (λ c l. branched-below f c (omega arith) (omega arith)) w.formed)
    where
      n : Node
      n = node_at p a

      w : NodeValid a n
      w = L.valid.nodes a h

      ts : List Term
      ts = trees_after [] p

      kids : ((c : ℕ) → c < a → Branched 2 (tree_at p c)) → AllBranched 2 (expand (runs_of ts n.runs))
      kids ih = rw (expand-runs ts n.runs) (all-branched (written n.runs) (λ c i. ih c (written_below a n.runs w.below c i)))

      many : length (expand (runs_of ts n.runs)) ≡ expanded_length n.runs
      many = ap length (expand-runs ts n.runs) ∙ length-map (written n.runs) (numbered ts) ∙ written-length n.runs

      go : ((c : ℕ) → c < a → Branched 2 (tree_at p c)) → Formed n → Branched 2 (tree_of ts n)
      go ih (operation e z) = rw (tree-operation ts n e) (at_node (kids ih))
      go ih (literal e z) = rw (tree-literal ts n e) at_literal
      go ih (marked e y z) = rw (tree-marked ts n e) (at_place (many ∙ (L.reads a h).branches e) (kids ih))

  pub lined-branched : (a : ℕ) → a < length p → Branched 2 (tree_at p a)
  lined-branched a h = branched-below (suc a) a (omega arith) h
