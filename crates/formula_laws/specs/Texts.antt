-- Paper 1's claims on texts: what is read is exactly the formulas, each has one term, a written card is read back, and none of its brackets can be left out.
use Rattle.std.specs.Prelude.{◌≡◌, refl, ◌≢◌, true, false, List, [], ◌∷◌, ◌++◌, ℕ, zero, suc, ◌+◌, ◌/◌, ◌%◌, ◌≤◌, ◌<◌, eqb, length}
use Rattle.std.proofs.Common.{sym, ap, ◌∙◌, not-suc-le-zero, arith, ne_eqb}
use Rattle.std.proofs.Math.Decide.{dec_lt}
use Rattle.spec.specs.Bytes.{all, decimal, digits, Res, ok, refused, ◌>>=◌}
use Rattle.spec.specs.Meaning.{occurs}
use Rattle.laws.specs.Tests.{clash}
use Rattle.laws.specs.BagCount.{occurs-append}
use Rattle.formula.specs.Card.{Tree, Mark, literal, between, list, next, close, opens, shuts, begin, or, end, sign, symbol, spell_mark, spell, proper_mark, write, Formula, FormulaText}
use Rattle.formula.specs.Reader.{Frame, State, wants, has, wrong, step, run, read_marks}
use Rattle.formula.specs.Lexer.{sign_byte, cut, read_text}
use Rattle.formula_laws.specs.Complete.{complete, formula-reads}
use Rattle.formula_laws.specs.Sound.{sound}
use Rattle.formula_laws.specs.Fewest.{Shaped, written, is_opening, bracket_pairs, fewest}
use Rattle.formula_laws.specs.Lexing.{Sparse, no-mark, one-mark, two-marks, is_literal, cut-spelt, cut_right, spelt-length, all_cons, of-proper, sign-bytes, digits-one, digits_step}

-- ---- a formula has no literal behind a literal, or reading would fail
wrong_stays : (t : List ℕ) (s : List Mark) → run t wrong s ≡ wrong
unfolding run step
wrong_stays t [] = refl
wrong_stays t (c ∷ s) = wrong_stays t s

after-literal : (t : List ℕ) (u : State) (v o w q : ℕ) → step t (step t u (literal v o)) (literal w q) ≡ wrong
unfolding step
after-literal t (wants k) v o w q = refl
after-literal t (has k a) v o w q = refl
after-literal t wrong v o w q = refl

sparse-run : (t : List ℕ) (u : State) (s : List Mark) → run t u s ≢ wrong → Sparse s
unfolding run
sparse-run t u [] h = no-mark
sparse-run t u (c ∷ []) h = one-mark
sparse-run t u (c ∷ d ∷ s) h = two-marks (go c d h) (sparse-run t (step t u c) (d ∷ s) h)
  where
    go : (c d : Mark) → run t u (c ∷ d ∷ s) ≢ wrong → is_literal c ≡ true → is_literal d ≡ false
    go (literal v o) (literal w q) h e = absurd (h (ap (λ z. run t z s) (after-literal t u v o w q) ∙ wrong_stays t s))
    go (literal v o) (between q) h e = refl
    go (literal v o) (list q) h e = refl
    go (literal v o) next h e = refl
    go (literal v o) close h e = refl
    go (literal v o) opens h e = refl
    go (literal v o) shuts h e = refl
    go (literal v o) begin h e = refl
    go (literal v o) or h e = refl
    go (literal v o) end h e = refl
    go (between o) d h e = absurd (clash (sym e))
    go (list o) d h e = absurd (clash (sym e))
    go next d h e = absurd (clash (sym e))
    go close d h e = absurd (clash (sym e))
    go opens d h e = absurd (clash (sym e))
    go shuts d h e = absurd (clash (sym e))
    go begin d h e = absurd (clash (sym e))
    go or d h e = absurd (clash (sym e))
    go end d h e = absurd (clash (sym e))

sparse : (t : List ℕ) (s : List Mark) (a : Tree) → Formula t 0 s a → Sparse s
sparse t s a f = sparse-run t (wants []) s (λ e. apart (sym (formula-reads t f [] tt).ran ∙ e))
  where
    apart : {k : List Frame} {b : Tree} → has k b ≡ wrong → ⊥
    apart e = let y : ◌≡◌ {A = ℕ} 0 1 = cc in omega arith

-- ---- "Reading .. yields the same term": of every formula, with whatever further brackets
pub text-read : (t s : List ℕ) (a : Tree) → FormulaText t s a → read_text t s ≡ ok a
unfolding read_text
text-read t s a f =
    let e : cut (length s) t s ≡ ok f.marks =
    ap (λ z. cut (length z) t z) f.spelt ∙ cut-spelt (length (spell t f.marks)) t (sparse t f.marks a f.formula) f.proper (spelt-length t f.marks f.proper) in
    ap (λ (z : Res (List Mark)). z >>= read_marks t) e ∙ complete t f.marks a f.formula

-- "Refusal 17 is for a text that is not a formula": what is read is a formula
pub read-text : (t s : List ℕ) (a : Tree) → read_text t s ≡ ok a → FormulaText t s a
unfolding read_text
read-text t s a e = go (cut (length s) t s) refl e
  where
    go : (r : Res (List Mark)) → cut (length s) t s ≡ r → (r >>= read_marks t) ≡ ok a → FormulaText t s a
    go (ok c) k j = let (x, y) = cut_right (length s) t s c k in record { marks = c; formula = sound t c a j; proper = y; spelt = x }
    go (refused n) k j = absurd (let y : ◌≡◌ {A = ℕ} 0 1 = cc in omega arith)

-- a text has one term
pub one-term : (t s : List ℕ) (a b : Tree) → FormulaText t s a → FormulaText t s b → a ≡ b
one-term t s a b f g = let e : ok a ≡ ok b = sym (text-read t s a f) ∙ text-read t s b g in cc

-- what is written is a formula
pub card-text : (t : List ℕ) (a : Tree) → Shaped a → all (proper_mark t) (write t 0 a) ≡ true → FormulaText t (spell t (write t 0 a)) a
card-text t a h p = record { marks = write t 0 a; formula = written t 0 h; proper = p; spelt = refl }

-- ---- brackets as bytes
none_of : (w : List ℕ) → all sign_byte w ≡ true → occurs 40 w ≡ 0
unfolding occurs symbol
none_of [] h = refl
none_of (x ∷ w) h =
    let (a, b) = all_cons sign_byte x w h in
    let z : eqb x 40 ≡ false = ne_eqb x 40 (λ e. clash (sym a ∙ ap sign_byte e)) in
    rw z (omega (arith, none_of w b))

digits-none : (f n : ℕ) (l : List ℕ) → n < f → occurs 40 (digits f n l) ≡ occurs 40 l
unfolding occurs
digits-none zero n l h = absurd (not-suc-le-zero h)
digits-none (suc f) n l h = go (dec_lt n 10) (λ m k. digits-none f (n / 10) m k)
  where
    high : (x : ℕ) (l : List ℕ) → occurs 40 ((48 + x) ∷ l) ≡ occurs 40 l
    high x l = let z : eqb (48 + x) 40 ≡ false = ne_eqb (48 + x) 40 (λ e. omega arith) in rw z (omega arith)

    go : Dec (n < 10) → ((m : List ℕ) → n / 10 < f → occurs 40 (digits f (n / 10) m) ≡ occurs 40 m) → occurs 40 (digits (suc f) n l) ≡ occurs 40 l
    go (yes q) ih = ap (occurs 40) (digits-one f n l q) ∙ high n l
    go (no q) ih = ap (occurs 40) (digits_step f n l (omega arith)) ∙ ih ((48 + n % 10) ∷ l) (omega arith) ∙ high (n % 10) l

decimal-none : (n : ℕ) → occurs 40 (decimal n) ≡ 0
unfolding occurs
decimal-none n = digits-none (suc n) n [] (omega arith)

mark-opening : (t : List ℕ) (c : Mark) → proper_mark t c ≡ true → occurs 40 (spell_mark t c) ≡ is_opening c
unfolding spell_mark proper_mark occurs
mark-opening t (literal v o) p = omega (arith, occurs-append 40 (decimal v) (35 ∷ decimal o), decimal-none v, decimal-none o)
mark-opening t (between o) p = omega (arith, occurs-append 40 (sign t o) (32 ∷ []), none_of (sign t o) (sign-bytes (sign t o) (of-proper t o p).sound))
mark-opening t (list o) p = omega (arith, occurs-append 40 (sign t o) (91 ∷ []), none_of (sign t o) (sign-bytes (sign t o) (of-proper t o p).sound))
mark-opening t next p = refl
mark-opening t close p = refl
mark-opening t opens p = refl
mark-opening t shuts p = refl
mark-opening t begin p = refl
mark-opening t or p = refl
mark-opening t end p = refl

spelt-pairs : (t : List ℕ) (c : List Mark) → all (proper_mark t) c ≡ true → occurs 40 (spell t c) ≡ bracket_pairs c
unfolding spell bracket_pairs occurs
spelt-pairs t [] p = refl
spelt-pairs t (c ∷ s) p =
    let (a, b) = all_cons (proper_mark t) c s p in
    omega (arith, occurs-append 40 (spell_mark t c) (spell t s), mark-opening t c a, spelt-pairs t s b)

-- ---- "Write a term with the fewest brackets": no text of the term has fewer
pub fewest-brackets : (t s : List ℕ) (a : Tree) → all (proper_mark t) (write t 0 a) ≡ true → FormulaText t s a → occurs 40 (spell t (write t 0 a)) ≤ occurs 40 s
fewest-brackets t s a p f =
    omega (arith, spelt-pairs t (write t 0 a) p, fewest t f.formula, spelt-pairs t f.marks f.proper, ap (occurs 40) f.spelt)

-- "leaving out any one bracket pair yields another term or none"
pub none-left-out : (t : List ℕ) (a : Tree) (u v w : List ℕ) → all (proper_mark t) (write t 0 a) ≡ true → spell t (write t 0 a) ≡ u ++ (40 ∷ v ++ (41 ∷ w)) → read_text t (u ++ (v ++ w)) ≢ ok a
unfolding occurs
none-left-out t a u v w p e h =
    let f = fewest-brackets t (u ++ (v ++ w)) a p (read-text t (u ++ (v ++ w)) a h) in
    omega (arith, f, ap (occurs 40) e, occurs-append 40 u (40 ∷ v ++ (41 ∷ w)), occurs-append 40 v (41 ∷ w), occurs-append 40 u (v ++ w), occurs-append 40 v w)
