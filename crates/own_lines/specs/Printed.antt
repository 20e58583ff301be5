-- A line of a listing, cut where it is read: its number, its term, and what stands behind it.
use Rattle.std.specs.Prelude.{◌≡◌, refl, ◌≢◌, List, [], ◌∷◌, ◌++◌, ℕ, zero, suc, ◌-◌, ◌≤◌, ◌<◌, eqb, length}
use Rattle.std.proofs.Common.{sym, ap, ◌∙◌, append_assoc, zero-le, not-suc-le-zero, arith, le-leb, lt-ltb, ne_eqb, length-append}
use Rattle.spec.specs.Bytes.{pick, each, sum, Two, text, decimal, digits, ok, ◌>>=◌}
use Rattle.spec.specs.Pool.{Node, OP, LIT, VARIANTS, RUNS, expanded_length}
use Rattle.spec.specs.Meaning.{here}
use Rattle.pools.specs.Pool.{Joined, more, joined-tail, RunsBelow, runs-below-tail, Formed, operation, literal, marked}
use Rattle.pools.specs.PoolTrees.{node-ext}
use Rattle.formula.specs.Lexer.{lead}
use Rattle.formula.specs.Lines.{cut_word, cut_number, CHILDREN, cut_runs, runs_at, cut_node, cut_line}
use Rattle.formula_laws.specs.LineTerms.{Read}
use Rattle.formula_laws.specs.Lexing.{starts-own, drop_own, lead-decimal, Stop}

-- ---- the text of a term: behind its number each field with the space before it, then the line feed
unfoldable pub run_text : Two → List ℕ
unfolding digits
run_text r = 32 ∷ decimal r.0 ++ (58 ∷ decimal r.1)

unfoldable pub head_text : Node → List ℕ
unfolding digits text
head_text n =
    pick (eqb n.head LIT) (text " lit " ++ (decimal n.op ++ (32 ∷ decimal n.value)))
    (pick (eqb n.head VARIANTS) (text " variants") (text " op " ++ decimal n.op))

-- ---- what stands at the front
cut-word : (w r : List ℕ) → cut_word w (w ++ r) ≡ ok r
unfolding cut_word
cut-word w r = rw (starts-own w r, drop_own w r) refl

cut-number : (most n : ℕ) (r : List ℕ) → n ≤ most → Stop r → cut_number most (decimal n ++ r) ≡ ok (n, r)
unfolding cut_number
cut-number most n r h s = rw (lead-decimal n r ∙ s n, le-leb n most h, starts-own (decimal n) r, drop_own (decimal n) r) refl

-- ---- runs
runs-stop : (l : List Two) (r : List ℕ) → Stop (each run_text l ++ (10 ∷ r))
unfolding each run_text lead
runs-stop [] r = λ n. refl
runs-stop (x ∷ l) r = λ n. refl

-- the first of them is not `last`
abbrev Next : ℕ → List Two → Type 0
Next last [] = Unit
Next last (r ∷ l) = r.0 ≢ last

run-text : (x : Two) (t : List ℕ) → run_text x ++ t ≡ text " " ++ (decimal x.0 ++ (text ":" ++ (decimal x.1 ++ t)))
unfolding run_text text
run-text x t = ap (λ (z : List ℕ). 32 ∷ z) (append_assoc (decimal x.0) (58 ∷ decimal x.1) t)

cut-run : (f k last left free : ℕ) (x : Two) (t : List ℕ) → k ≤ 16384 → x.0 < k → x.0 ≢ last → x.1 ≤ left → 1 ≤ x.1 → 1 ≤ free → Stop t
    → cut_runs (suc f) k last left free (run_text x ++ t) ≡ (cut_runs f k x.0 (left - x.1) (free - 1) t >>= λ l. ok (x ∷ l.0, l.1))
unfolding cut_runs
cut-run f k last left free x t hk hx n hl hc hf s =
    let a : List ℕ = text ":" ++ (decimal x.1 ++ t) in
    rw (run-text x t) (rw (cut-number 16383 x.0 a (omega arith) (λ m. refl), cut_runs, lt-ltb x.0 k hx, ne_eqb x.0 last n, cut-number left x.1 t hl s, lt-ltb 0 x.1 hc, lt-ltb 0 free hf) refl)

cut-runs : (f k last left free : ℕ) (l : List Two) (r : List ℕ) → k ≤ 16384 → RunsBelow k l → Joined l → Next last l → expanded_length l ≤ left → length l ≤ free → length l < f
    → cut_runs f k last left free (each run_text l ++ (10 ∷ r)) ≡ ok (l, r)
unfolding cut_runs each sum
cut-runs zero k last left free l r hk b j n hl hf h = absurd (not-suc-le-zero h)
cut-runs (suc f) k last left free [] r hk b j n hl hf h = refl
cut-runs (suc f) k last left free (x ∷ l) r hk b j n hl hf h =
    rw (append_assoc (run_text x) (each run_text l) (10 ∷ r))
    (cut-run f k last left free x (each run_text l ++ (10 ∷ r)) hk (b.earlier x here) n (omega arith) (b.counted x here) (omega arith) (runs-stop l r)
    ∙ rw (cut-runs f k x.0 (left - x.1) (free - 1) l r hk (runs-below-tail b) (joined-tail j) (next-run x l j) (omega arith) (omega arith) (omega arith)) refl)
  where
    next-run : (x : Two) (l : List Two) → Joined (x ∷ l) → Next x.0 l
    next-run x [] j = tt
    next-run x (y ∷ l) (more d j) = λ e. d (sym e)

-- a run has a byte
runs-length : (l : List Two) (r : List ℕ) → length l ≤ length (each run_text l ++ r)
unfolding each run_text
runs-length [] r = zero-le
runs-length (x ∷ l) r = omega (arith, runs-length l r, length-append (run_text x) (each run_text l), length-append (run_text x ++ each run_text l) r, length-append (each run_text l) r)

runs-at : (k : ℕ) (l : List Two) (r : List ℕ) → k ≤ 16384 → RunsBelow k l → Joined l → expanded_length l ≤ CHILDREN → length l ≤ RUNS → runs_at k (each run_text l ++ (10 ∷ r)) ≡ ok (l, r)
runs-at k l r hk b j hl hf = cut-runs (suc (length (each run_text l ++ (10 ∷ r)))) k k CHILDREN RUNS l r hk b j (first l b) hl hf (omega (arith, runs-length l (10 ∷ r)))
  where
    first : (l : List Two) → RunsBelow k l → Next k l
    first [] b = tt
    first (x ∷ l) b = λ e. omega (arith, b.earlier x here)

-- ---- terms
cut-operation : (k o : ℕ) (l : List Two) (s r : List ℕ) → o ≤ 63 → Stop s → runs_at k s ≡ ok (l, r) → cut_node k ((text " op " ++ decimal o) ++ s) ≡ ok (record { head = OP; op = o; value = 0; runs = l }, r)
unfolding cut_node text
cut-operation k o l s r h t e = rw (cut-number 63 o s h t, cut_node, e) refl

cut-marked : (k : ℕ) (l : List Two) (s r : List ℕ) → expanded_length l ≡ 2 → runs_at k s ≡ ok (l, r) → cut_node k (text " variants" ++ s) ≡ ok (record { head = VARIANTS; op = 0; value = 0; runs = l }, r)
unfolding cut_node text
cut-marked k l s r h e = rw (e, cut_node, h) refl

cut-literal : (k o v : ℕ) (r : List ℕ) → o ≤ 63 → v ≤ 4294967295 → cut_node k ((text " lit " ++ (decimal o ++ (32 ∷ decimal v))) ++ (10 ∷ r)) ≡ ok (record { head = LIT; op = o; value = v; runs = [] }, r)
unfolding cut_node text lead
cut-literal k o v r h w = rw (append_assoc (decimal o) (32 ∷ decimal v) (10 ∷ r)) (rw (cut-number 63 o (32 ∷ (decimal v ++ (10 ∷ r))) h (λ m. refl), cut_node, cut-number 4294967295 v (10 ∷ r) w (λ m. refl)) refl)

head-operation : (n : Node) → n.head ≡ OP → head_text n ≡ text " op " ++ decimal n.op
unfolding head_text
head-operation n e = rw e refl

head-literal : (n : Node) → n.head ≡ LIT → head_text n ≡ text " lit " ++ (decimal n.op ++ (32 ∷ decimal n.value))
unfolding head_text
head-literal n e = rw e refl

head-marked : (n : Node) → n.head ≡ VARIANTS → head_text n ≡ text " variants"
unfolding head_text
head-marked n e = rw e refl

cut-node : (k : ℕ) (n : Node) (r : List ℕ) → k ≤ 16384 → Read k n → cut_node k (head_text n ++ (each run_text n.runs ++ (10 ∷ r))) ≡ ok (n, r)
unfolding each
cut-node k n r hk P = go P.valid.formed
  where
    s : List ℕ
    s = each run_text n.runs ++ (10 ∷ r)

    at : runs_at k s ≡ ok (n.runs, r)
    at = runs-at k n.runs r hk P.valid.below P.valid.joined P.light P.few

    whole : (m : Node) → m ≡ n → cut_node k (head_text n ++ s) ≡ ok (m, r) → cut_node k (head_text n ++ s) ≡ ok (n, r)
    whole m e h = h ∙ ap (λ (z : Node). ok (z, r)) e

    go : Formed n → cut_node k (head_text n ++ s) ≡ ok (n, r)
    go (operation e z) = whole _ (node-ext (record { head = OP; op = n.op; value = 0; runs = n.runs }) n (sym e) refl (sym z) refl) (rw (head-operation n e) (cut-operation k n.op n.runs s r P.operations (runs-stop n.runs r) at))
    go (literal e z) = whole _ (node-ext (record { head = LIT; op = n.op; value = n.value; runs = [] }) n (sym e) refl refl (sym z)) (rw (head-literal n e, z) (cut-literal k n.op n.value r P.operations P.value))
    go (marked e z u) = whole _ (node-ext (record { head = VARIANTS; op = 0; value = 0; runs = n.runs }) n (sym e) (sym z) (sym u) refl) (rw (head-marked n e) (cut-marked k n.runs s r (P.branches e) at))

-- ---- lines
-- line k, with what stands behind it
abbrev pub line_text : ℕ → Node → List ℕ → List ℕ
line_text k n r = decimal k ++ (head_text n ++ (each run_text n.runs ++ (10 ∷ r)))

pub cut-line : (k : ℕ) (n : Node) (r : List ℕ) → k ≤ 16384 → Read k n → cut_line k (line_text k n r) ≡ ok (n, r)
unfolding cut_line
cut-line k n r hk P = rw (cut-word (decimal k) (head_text n ++ (each run_text n.runs ++ (10 ∷ r)))) (cut-node k n r hk P)
