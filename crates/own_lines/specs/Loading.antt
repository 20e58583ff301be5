-- The lines of a valid pool, one for each of its terms, are read back to that pool.
use Rattle.std.specs.Prelude.{◌≡◌, refl, Bool, true, false, ltb, get_or}
use Rattle.std.proofs.Math.Path.{sym, ap}
use Rattle.std.proofs.Common.{◌∙◌, not-suc-le-zero, arith, le-leb, lt-ltb, ltb-true, eq-eqb}
use mathlib.Core.List.{List, [], ◌∷◌, ◌++◌, map, append-nil, append_assoc}
use Prim.Native.Nat.{ℕ, zero, suc, ◌+◌, ◌≤◌, ◌<◌, zero-le}
use Rattle.std.proofs.Math.ListN.{length, length-append, get_or-append}
use Rattle.spec.specs.Bytes.{Limits, each, place, sum, decimal, digits, ok}
use Rattle.spec.specs.Pool.{Pool, Node, node_at, same_node, run_count, interned, intern}
use Rattle.spec.specs.Run.{document_limits}
use Rattle.laws.specs.Bag.{map-append, sum-append}
use Rattle.pools.specs.Pool.{NodeValid, PoolValid}
use Rattle.pools.proofs.PoolIntern.{intern-enters}
use Rattle.formula.specs.Lexer.{is_nil}
use Rattle.formula.specs.Lines.{cut_line, add_lines, read_lines}
use Rattle.formula_laws.specs.LineTerms.{Read, Lined}
use Rattle.formula_laws.specs.Lexing.{digits-first}
use Rattle.own_lines.specs.Printed.{run_text, head_text, line_text, cut-line}

-- ---- the lines of terms, numbered from k
unfoldable pub pool_text : ℕ → Pool → List ℕ
unfolding digits each head_text run_text
pool_text k [] = []
pool_text k (n ∷ p) = line_text k n (pool_text (suc k) p)

line-some : (k : ℕ) (n : Node) (r : List ℕ) → (c : ℕ) × (w : List ℕ) × (line_text k n r ≡ c ∷ w)
line-some k n r = let (c, w, e, d) = digits-first (suc k) k [] (omega arith) in let t = head_text n ++ (each run_text n.runs ++ (10 ∷ r)) in (c, w ++ t, ap (λ (z : List ℕ). z ++ t) e)

line-longer : (k : ℕ) (n : Node) (r : List ℕ) → length r < length (line_text k n r)
line-longer k n r = omega (arith, length-append (decimal k) (head_text n ++ (each run_text n.runs ++ (10 ∷ r))), length-append (head_text n) (each run_text n.runs ++ (10 ∷ r)), length-append (each run_text n.runs) (10 ∷ r))

text-length : (k : ℕ) (p : Pool) → length p ≤ length (pool_text k p)
unfolding pool_text
text-length k [] = zero-le
text-length k (n ∷ p) = omega (arith, text-length (suc k) p, line-longer k n (pool_text (suc k) p))

-- ---- pools
pub runs_append : (p q : Pool) → run_count (p ++ q) ≡ run_count p + run_count q
unfolding run_count
runs_append p q = ap sum (map-append (λ (n : Node). length n.runs) p q) ∙ sum-append (map (λ (n : Node). length n.runs) p) (map (λ (n : Node). length n.runs) q)

get-middle : {A : Type 0} (d : A) (p : List A) (n : A) (q : List A) → get_or (p ++ (n ∷ q)) (length p) d ≡ n
get-middle d [] n q = refl
get-middle d (m ∷ p) n q = get-middle d p n q

prefix-valid : (p q : Pool) → PoolValid (p ++ q) → PoolValid p
prefix-valid p q v = record {
  nodes = λ i h. rw (← old i h) (v.nodes i (omega (arith, length-append p q)));
  apart = λ i j h k e. v.apart i j (omega (arith, length-append p q)) (omega (arith, length-append p q)) (old i h ∙ e ∙ sym (old j k));
}
  where
    old : (i : ℕ) → i < length p → node_at (p ++ q) i ≡ node_at p i
    old i h = get_or-append p q _ i h

-- a node is not found where no entry is it
pub absent : (p : Pool) (n : Node) → PoolValid p → NodeValid (length p) n → ((i : ℕ) → i < length p → node_at p i ≡ n → ⊥) → ltb (place (same_node n) p) (length p) ≡ false
unfolding intern
absent p n v w new = go (ltb a (length p)) refl
  where
    a : ℕ
    a = place (same_node n) p

    go : (b : Bool) → ltb a (length p) ≡ b → ltb a (length p) ≡ false
    go true e = absurd (new a (ltb-true a (length p) e) (intern-enters document_limits p n (interned p a) v w (rw e refl)).entry)
    go false e = e

-- a node that is not there is entered, where there is room
intern-new : (lim : Limits) (p : Pool) (n : Node) → PoolValid p → NodeValid (length p) n → ((i : ℕ) → i < length p → node_at p i ≡ n → ⊥) → length p < lim.terms → run_count p + length n.runs ≤ lim.runs
    → intern lim p n ≡ ok (interned (p ++ (n ∷ [])) (length p))
unfolding intern
intern-new lim p n v w new room runs = rw (absent p n v w new, lt-ltb (length p) lim.terms room, le-leb (run_count p + length n.runs) lim.runs runs) refl

-- ---- line after line
add-line : (lim : Limits) (f : ℕ) (p : Pool) (n : Node) (s r : List ℕ) → is_nil s ≡ false → cut_line (length p) s ≡ ok (n, r) → intern lim p n ≡ ok (interned (p ++ (n ∷ [])) (length p)) → add_lines lim (suc f) p s ≡ add_lines lim f (p ++ (n ∷ [])) r
unfolding add_lines
add-line lim f p n s r e c i = rw (e, add_lines, c, i, eq-eqb (length p) (length p) refl) refl

module _ (lim : Limits) (w : Pool) (L : Lined lim w) (lines : length w ≤ 16384) where
  add-lines : (f k : ℕ) (p q : Pool) → w ≡ p ++ q → k ≡ length p → length q ≤ f → add_lines lim f p (pool_text k q) ≡ ok w
  unfolding add_lines pool_text
  add-lines zero k p [] e z h = ap ok (sym (append-nil p) ∙ sym e)
  add-lines (suc f) k p [] e z h = ap ok (sym (append-nil p) ∙ sym e)
  add-lines zero k p (n ∷ q) e z h = absurd (not-suc-le-zero h)
  add-lines (suc f) k p (n ∷ q) e z h =
      rw z (
      add-line lim f p n (line_text (length p) n (pool_text (suc (length p)) q)) (pool_text (suc (length p)) q) (some (length p) n (pool_text (suc (length p)) q)) (cut-line (length p) n (pool_text (suc (length p)) q) (omega (arith, long)) printed)
      (intern-new lim p n (prefix-valid p (n ∷ q) (rw e at L.valid)) printed.valid new (omega (arith, long, L.terms)) (omega (arith, counted, L.runs)))
      ∙ add-lines f (suc (length p)) (p ++ (n ∷ [])) q (e ∙ sym (append_assoc p (n ∷ []) q)) (omega (arith, length-append p (n ∷ []))) (omega arith)
      )
    where
      long : length w ≡ length p + suc (length q)
      long = ap length e ∙ length-append p (n ∷ q)

      here : node_at w (length p) ≡ n
      here = ap (λ (x : Pool). node_at x (length p)) e ∙ get-middle _ p n q

      printed : Read (length p) n
      printed = rw (← here) (L.reads (length p) (omega (arith, long)))

      new : (i : ℕ) → i < length p → node_at p i ≡ n → ⊥
      new i l q' = omega (arith, L.valid.apart i (length p) (omega (arith, long)) (omega (arith, long)) (ap (λ (x : Pool). node_at x i) e ∙ get_or-append p (n ∷ q) _ i l ∙ q' ∙ sym here))

      counted : run_count w ≡ run_count p + (length n.runs + run_count q)
      counted = ap run_count e ∙ runs_append p (n ∷ q)

      some : (k : ℕ) (n : Node) (r : List ℕ) → is_nil (line_text k n r) ≡ false
      some k n r = let (c, s, d) = line-some k n r in ap is_nil d

-- A pool of terms that lines can print is read back from its lines.
pub read-lines : (lim : Limits) (w : Pool) → Lined lim w → length w ≤ 16384 → 0 < length w → read_lines lim (pool_text 0 w) ≡ ok w
unfolding read_lines
read-lines lim w L lines some = rw (add-lines lim w L lines (length (pool_text 0 w)) 0 [] w refl refl (text-length 0 w), lt-ltb 0 (length w) some) refl
