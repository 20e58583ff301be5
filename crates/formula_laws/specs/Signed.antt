-- "18 for an operation in the term without a proper sign of its own and precedence", over the pool's nodes: every mark of a card is proper exactly where every node in the term is.
use Rattle.std.specs.Prelude.{◌≡◌, Bool, ltb, length}
use Rattle.std.proofs.Math.Path.{refl}
use Rattle.std.proofs.Common.{sym, ap, ◌∙◌, not-suc-le-zero, arith}
use Rattle.std.proofs.Math.Logic.{inl, inr}
use Rattle.std.proofs.Math.Bool.{true, false}
use mathlib.Core.List.{List, [], ◌∷◌, ◌++◌}
use Prim.Native.Nat.{ℕ, zero, suc, ◌<◌}
use Rattle.std.proofs.Math.Dec.{eqb}
use Rattle.spec.specs.Bytes.{all}
use Rattle.spec.specs.Pool.{Pool, Node, node_at, OP, LIT, VARIANTS}
use Rattle.spec.specs.Meaning.{In, here, there}
use Rattle.laws.specs.Lists.{in-cons, in-nil}
use Rattle.laws.specs.Tests.{clash}
use Rattle.laws.specs.BagCount.{written}
use Rattle.pools.specs.Pool.{Formed, operation, literal, marked, NodeValid, PoolValid}
use Rattle.formula.specs.Card.{Mark, between, list, next, close, opens, shuts, begin, or, end, prec_of, left_level, right_level, bracketed, proper, proper_mark, write}
use Rattle.formula.specs.Card as C
use Rattle.formula.specs.Lexer.{card_tree}
use Rattle.formula_laws.specs.Lexing.{all_cons, cons-all}
use Rattle.formula_laws.specs.Terms.{series_of, operation_marks, node_marks, term_marks, literal-marks, operation-marks, marked-marks, written_below, term-written}

-- a node in the term of number a, children with counts written out
pub data InTerm (p : Pool) : ℕ → ℕ → Type 0 where
  itself : {a : ℕ} → InTerm p a a
  below : {a b c : ℕ} → In b (written (node_at p a).runs) → InTerm p b c → InTerm p a c

-- a literal has an operation of at most 63, an operation a proper sign of its own and precedence
unfoldable pub node_proper : List ℕ → Node → Bool
unfolding proper_mark proper
node_proper t n = elim (eqb n.head LIT) [ true ↦ proper_mark t (C.literal n.value n.op) | false ↦ elim (eqb n.head VARIANTS) [ true ↦ true | false ↦ proper t n.op ] ]

-- ---- lists
all_split : {A : Type 0} (f : A → Bool) (l r : List A) → all f (l ++ r) ≡ true → (all f l ≡ true) × (all f r ≡ true)
unfolding all
all_split f [] r e = (refl, e)
all_split f (x ∷ l) r e = let (a, b) = all_cons f x (l ++ r) e in let (c, d) = all_split f l r b in (cons-all f x l a c, d)

all_join : {A : Type 0} (f : A → Bool) (l r : List A) → all f l ≡ true → all f r ≡ true → all f (l ++ r) ≡ true
unfolding all
all_join f [] r e h = h
all_join f (x ∷ l) r e h = let (a, b) = all_cons f x l e in cons-all f x (l ++ r) a (all_join f l r b h)

module _ (t : List ℕ) where
  abbrev good : List Mark → Type 0
  good s = all (proper_mark t) s ≡ true

  series-of : (w : ℕ → List Mark) (sep : Mark) (l : List ℕ) → good (series_of w sep l) → (c : ℕ) → In c l → good (w c)
  unfolding series_of
  series-of w sep [] e c i = absurd (in-nil i)
  series-of w sep (d ∷ []) e c i = elim (in-cons i) [ inl z ↦ rw z e | inr j ↦ absurd (in-nil j) ]
  series-of w sep (d ∷ x ∷ l) e c i =
      let (a, b) = all_split (proper_mark t) (w d) (sep ∷ series_of w sep (x ∷ l)) e in
      elim (in-cons i) [ inl z ↦ rw z a | inr j ↦ series-of w sep (x ∷ l) (all_cons (proper_mark t) sep (series_of w sep (x ∷ l)) b).1 c j ]

  series-good : (w : ℕ → List Mark) (sep : Mark) (l : List ℕ) → proper_mark t sep ≡ true → ((c : ℕ) → In c l → good (w c)) → good (series_of w sep l)
  unfolding series_of all
  series-good w sep [] p h = refl
  series-good w sep (d ∷ []) p h = h d here
  series-good w sep (d ∷ x ∷ l) p h =
      all_join (proper_mark t) (w d) (sep ∷ series_of w sep (x ∷ l)) (h d here) (cons-all (proper_mark t) sep (series_of w sep (x ∷ l)) p (series-good w sep (x ∷ l) p (λ c i. h c (there i))))

  closed_of : (x y : Mark) (s : List Mark) → good (x ∷ s ++ (y ∷ [])) → (proper_mark t x ≡ true) × good s
  closed_of x y s e = let (a, b) = all_cons (proper_mark t) x (s ++ (y ∷ [])) e in (a, (all_split (proper_mark t) s (y ∷ []) b).0)

  closed-good : (x y : Mark) (s : List Mark) → proper_mark t x ≡ true → proper_mark t y ≡ true → good s → good (x ∷ s ++ (y ∷ []))
  unfolding all
  closed-good x y s p q h = cons-all (proper_mark t) x (s ++ (y ∷ [])) p (all_join (proper_mark t) s (y ∷ []) h (cons-all (proper_mark t) y [] q refl))

  bracketed-of : (x : Bool) (s : List Mark) → good (bracketed x s) → good s
  bracketed-of true s e = (closed_of opens shuts s e).1
  bracketed-of false s e = e

  bracketed-good : (x : Bool) (s : List Mark) → good s → good (bracketed x s)
  unfolding proper_mark
  bracketed-good true s e = closed-good opens shuts s refl refl e
  bracketed-good false s e = e

  operation-of : (w : ℕ → ℕ → List Mark) (m o : ℕ) (l : List ℕ) → good (operation_marks t w m o l) → (proper t o ≡ true) × ((c : ℕ) → In c l → (k : ℕ) × good (w k c))
  unfolding operation_marks proper_mark
  operation-of w m o [] e = ((closed_of (list o) close [] e).0, λ c i. absurd (in-nil i))
  operation-of w m o (d ∷ []) e =
      let (a, b) = closed_of (list o) close (w 0 d) e in
      (a, λ c i. elim (in-cons i) [ inl z ↦ (0, rw z b) | inr j ↦ absurd (in-nil j) ])
  operation-of w m o (d ∷ x ∷ []) e =
      let (a, b) = all_split (proper_mark t) (w (left_level t (prec_of t o)) d) (between o ∷ w (right_level t (prec_of t o)) x) (bracketed-of (ltb (prec_of t o) m) _ e) in
      let (f, g) = all_cons (proper_mark t) (between o) (w (right_level t (prec_of t o)) x) b in
      (f, λ c i. elim (in-cons i) [ inl z ↦ (left_level t (prec_of t o), rw z a) | inr j ↦ elim (in-cons j) [ inl z ↦ (right_level t (prec_of t o), rw z g) | inr k ↦ absurd (in-nil k) ] ])
  operation-of w m o (d ∷ x ∷ y ∷ l) e =
      let (a, b) = closed_of (list o) close (series_of (w 0) next (d ∷ x ∷ y ∷ l)) e in
      (a, λ c i. (0, series-of (w 0) next (d ∷ x ∷ y ∷ l) b c i))

  operation-good : (w : ℕ → ℕ → List Mark) (m o : ℕ) (l : List ℕ) → proper t o ≡ true → ((k c : ℕ) → In c l → good (w k c)) → good (operation_marks t w m o l)
  unfolding operation_marks proper_mark all
  operation-good w m o [] p h = closed-good (list o) close [] p refl refl
  operation-good w m o (d ∷ []) p h = closed-good (list o) close (w 0 d) p refl (h 0 d here)
  operation-good w m o (d ∷ x ∷ []) p h =
      bracketed-good (ltb (prec_of t o) m) _ (all_join (proper_mark t) (w (left_level t (prec_of t o)) d) (between o ∷ w (right_level t (prec_of t o)) x) (h (left_level t (prec_of t o)) d here)
      (cons-all (proper_mark t) (between o) (w (right_level t (prec_of t o)) x) p (h (right_level t (prec_of t o)) x (there here))))
  operation-good w m o (d ∷ x ∷ y ∷ l) p h = closed-good (list o) close (series_of (w 0) next (d ∷ x ∷ y ∷ l)) p refl (series-good (w 0) next (d ∷ x ∷ y ∷ l) refl (h 0))

  literal-proper : (n : Node) → n.head ≡ LIT → node_proper t n ≡ proper_mark t (C.literal n.value n.op)
  unfolding node_proper
  literal-proper n e = rw (e, node_proper) refl

  operation-proper : (n : Node) → n.head ≡ OP → node_proper t n ≡ proper t n.op
  unfolding node_proper
  operation-proper n e = rw (e, node_proper) (inner (eqb n.head VARIANTS) (ap (λ z. eqb z VARIANTS) e))
    where
      inner : (x : Bool) → x ≡ false → (elim x [ true ↦ true | false ↦ proper t n.op ]) ≡ proper t n.op
      inner true f = absurd (clash f)
      inner false f = refl

  marked-proper : (n : Node) → n.head ≡ VARIANTS → node_proper t n ≡ true
  unfolding node_proper
  marked-proper n e = rw (e, node_proper) (inner (eqb n.head VARIANTS) (ap (λ z. eqb z VARIANTS) e))
    where
      inner : (x : Bool) → x ≡ true → (elim x [ true ↦ true | false ↦ proper t n.op ]) ≡ true
      inner true f = refl
      inner false f = absurd (clash (sym f))

  -- ---- a node: it is proper, and so are its children's marks
  abbrev Kids : (ℕ → ℕ → List Mark) → Node → Type 0
  Kids w n = (c : ℕ) → In c (written n.runs) → (k : ℕ) × good (w k c)

  node_of : (w : ℕ → ℕ → List Mark) (m i : ℕ) (n : Node) → NodeValid i n → good (node_marks t w m n) → (node_proper t n ≡ true) × Kids w n
  unfolding node_marks node_proper written
  node_of w m i n v e = go v.formed
    where
      go : Formed n → (node_proper t n ≡ true) × Kids w n
      go (literal h z) = (literal-proper n h ∙ (all_cons (proper_mark t) (C.literal n.value n.op) [] (rw (literal-marks t w m n h) at e)).0, λ c j. absurd (in-nil (rw z at j)))
      go (operation h z) = let (a, b) = operation-of w m n.op (written n.runs) (rw (operation-marks t w m n h) at e) in (operation-proper n h ∙ a, b)
      go (marked h x y) =
          let f = (closed_of begin end (series_of (w 0) or (written n.runs)) (rw (marked-marks t w m n h) at e)).1 in
          (marked-proper n h, λ c j. (0, series-of (w 0) or (written n.runs) f c j))

  node-good : (w : ℕ → ℕ → List Mark) (m i : ℕ) (n : Node) → NodeValid i n → node_proper t n ≡ true → ((k c : ℕ) → In c (written n.runs) → good (w k c)) → good (node_marks t w m n)
  unfolding node_marks node_proper all proper_mark
  node-good w m i n v e h = go v.formed
    where
      go : Formed n → good (node_marks t w m n)
      go (literal f z) = rw (literal-marks t w m n f) (cons-all (proper_mark t) (C.literal n.value n.op) [] (sym (literal-proper n f) ∙ e) refl)
      go (operation f z) = rw (operation-marks t w m n f) (operation-good w m n.op (written n.runs) (sym (operation-proper n f) ∙ e) h)
      go (marked f x y) = rw (marked-marks t w m n f) (closed-good begin end (series_of (w 0) or (written n.runs)) refl refl (series-good (w 0) or (written n.runs) refl (h 0)))

  -- ---- the whole term
  module _ (p : Pool) (v : PoolValid p) where
    marks-of : (f a : ℕ) → a < f → a < length p → (m : ℕ) → good (term_marks f t p m a) → (c : ℕ) → InTerm p a c → node_proper t (node_at p c) ≡ true
    unfolding term_marks
    marks-of zero a k h m e c j = absurd (not-suc-le-zero k)
    marks-of (suc f) a k h m e c j = go (node_of (term_marks f t p) m a (node_at p a) (v.nodes a h) e) c j (λ b l n g d i. marks-of f b (omega arith) (omega arith) n g d i)
      where
        go : (node_proper t (node_at p a) ≡ true) × Kids (term_marks f t p) (node_at p a) → (c : ℕ) → InTerm p a c
            → ((b : ℕ) → b < a → (n : ℕ) → good (term_marks f t p n b) → (d : ℕ) → InTerm p b d → node_proper t (node_at p d) ≡ true) → node_proper t (node_at p c) ≡ true
        go (x, y) c itself ih = x
        go (x, y) c (below {b = b} i j) ih = let (n, g) = y b i in ih b (written_below a (node_at p a).runs (v.nodes a h).below b i) n g c j

    marks-good : (f a : ℕ) → a < f → a < length p → ((c : ℕ) → InTerm p a c → node_proper t (node_at p c) ≡ true) → (m : ℕ) → good (term_marks f t p m a)
    unfolding term_marks
    marks-good zero a k h q m = absurd (not-suc-le-zero k)
    marks-good (suc f) a k h q m =
        node-good (term_marks f t p) m a (node_at p a) (v.nodes a h) (q a itself)
        (λ n c i. let l = written_below a (node_at p a).runs (v.nodes a h).below c i in marks-good f c (omega arith) (omega arith) (λ d j. q d (below i j)) n)

    -- Every mark of the card is proper exactly where every node in the term is.
    pub nodes-proper : (a : ℕ) → a < length p → all (proper_mark t) (write t 0 (card_tree p a)) ≡ true → (c : ℕ) → InTerm p a c → node_proper t (node_at p c) ≡ true
    nodes-proper a h e = marks-of (suc a) a (omega arith) h 0 (rw (term-written t p v 0 a h) e)

    pub card-proper : (a : ℕ) → a < length p → ((c : ℕ) → InTerm p a c → node_proper t (node_at p c) ≡ true) → all (proper_mark t) (write t 0 (card_tree p a)) ≡ true
    card-proper a h q = rw (← term-written t p v 0 a h) (marks-good (suc a) a (omega arith) h q 0)
