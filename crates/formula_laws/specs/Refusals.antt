-- Which refusals reading and writing give, and when: "17 for a text that is not a formula, 18 for an operation in the term without a proper sign ..; in writing 18 comes before 14, in reading 17 comes before 13."
use Rattle.std.specs.Prelude.{◌≡◌, refl, ◌≢◌, ◌⊎◌, Bool, true, false, List, [], ◌∷◌, ◌++◌, ℕ, zero, suc, ◌+◌, ◌≤◌, ◌<◌, leb, ltb, length, drop}
use Rattle.std.proofs.Common.{sym, ap, ◌∙◌, inl, inr, arith, le-leb}
use Rattle.std.proofs.lemmas.Bool.{lt-leb}
use Rattle.spec.specs.Bytes.{Limits, pick, both, all, place, Res, ok, refused, ◌>>=◌}
use Rattle.spec.specs.Pool.{Pool, Node, run_count, same_node, op_node, lit_node, Interned, interned, intern}
use Rattle.laws.specs.Results.{bind-refused, refused-inj, refused-ok}
use Rattle.formula.specs.Card.{Tree, lit, two, many, marked, Trees, none, also, Mark, spell, spell_mark, proper_mark, write, FormulaText}
use Rattle.formula.specs.Reader.{Frame, State, wants, has, wrong, reduce, alone, finish, run, read_marks}
use Rattle.formula.specs.Lexer.{card_tree, write_card, marked_node, enter, enter_all, mark_at, stands_at, before, cut, read_text, read_card}
use Rattle.formula_laws.specs.Texts.{text-read, read-text}

ok-refused : {A : Type 0} {n : ℕ} {a : A} → ok a ≡ refused n → ⊥
ok-refused e = refused-ok (sym e)

-- ---- reading a text refuses with 17 alone
alone-17 : (k : List Frame) (a : Tree) (n : ℕ) → alone k a ≡ refused n → n ≡ 17
unfolding alone
alone-17 [] a n e = absurd (ok-refused e)
alone-17 (f ∷ k) a n e = sym (refused-inj {A = Tree} e)

finish-17 : (t : List ℕ) (u : State) (n : ℕ) → finish t u ≡ refused n → n ≡ 17
unfolding finish
finish-17 t (wants k) n e = sym (refused-inj {A = Tree} e)
finish-17 t (has k a) n e = alone-17 (reduce t 0 k a).frames (reduce t 0 k a).value n e
finish-17 t wrong n e = sym (refused-inj {A = Tree} e)

cut-17 : (f : ℕ) (t s : List ℕ) (n : ℕ) → cut f t s ≡ refused n → n ≡ 17
unfolding cut
cut-17 zero t [] n e = absurd (ok-refused e)
cut-17 zero t (x ∷ s) n e = sym (refused-inj {A = List Mark} e)
cut-17 (suc f) t [] n e = absurd (ok-refused e)
cut-17 (suc f) t (x ∷ s) n e = go (stands_at t (mark_at t (x ∷ s)) (x ∷ s)) e (λ k. cut-17 f t rest n k)
  where
    rest : List ℕ
    rest = drop (length (spell_mark t (mark_at t (x ∷ s)))) (x ∷ s)

    kept : (c : Mark) (r : Res (List Mark)) → before c r ≡ refused n → r ≡ refused n
    kept c (ok l) e = absurd (ok-refused e)
    kept c (refused m) e = ap refused (refused-inj {A = List Mark} e)

    go : (b : Bool) → ◌≡◌ {A = Res (List Mark)} (elim b [ true ↦ before (mark_at t (x ∷ s)) (cut f t rest) | false ↦ refused 17 ]) (refused n) → (cut f t rest ≡ refused n → n ≡ 17) → n ≡ 17
    go true e ih = ih (kept (mark_at t (x ∷ s)) (cut f t rest) e)
    go false e ih = sym (refused-inj {A = List Mark} e)

pub text-17 : (t s : List ℕ) (n : ℕ) → read_text t s ≡ refused n → n ≡ 17
unfolding read_text read_marks
text-17 t s n e = elim (bind-refused (cut (length s) t s) (read_marks t) n e) [ inl f ↦ cut-17 (length s) t s n f | inr r ↦ finish-17 t (run t (wants []) r.0) n r.2 ]

-- ---- entering refuses with 13 alone
intern-13 : (lim : Limits) (p : Pool) (x : Node) (n : ℕ) → intern lim p x ≡ refused n → n ≡ 13
unfolding intern
intern-13 lim p x n e = go (ltb (place (same_node x) p) (length p)) (both (ltb (length p) lim.terms) (leb (run_count p + length x.runs) lim.runs)) e
  where
    go : (a b : Bool) → pick a (ok (interned p (place (same_node x) p))) (pick b (ok (interned (p ++ (x ∷ [])) (length p))) (refused 13)) ≡ refused n → n ≡ 13
    go true b e = absurd (ok-refused e)
    go false true e = absurd (ok-refused e)
    go false false e = sym (refused-inj {A = Interned} e)

mutual
  unfolding enter

  enter-13 : (lim : Limits) (a : Tree) (p : Pool) (n : ℕ) → enter lim p a ≡ refused n → n ≡ 13
  enter-13 lim (lit o v) p n e = intern-13 lim p (lit_node o v) n e
  enter-13 lim (two o a b) p n e = elim (bind-refused (enter lim p a) _ n e) [
    | inl f ↦ enter-13 lim a p n f
    | inr r ↦ elim (bind-refused (enter lim r.0.pool b) _ n r.2) [ inl f ↦ enter-13 lim b r.0.pool n f | inr q ↦ intern-13 lim q.0.pool (op_node o ((r.0.term, 1) ∷ (q.0.term, 1) ∷ [])) n q.2 ]
  ]
  enter-13 lim (many o l) p n e = elim (bind-refused (enter_all lim p l) _ n e) [ inl f ↦ all-13 lim l p n f | inr r ↦ intern-13 lim r.0.pool (op_node o r.0.runs) n r.2 ]
  enter-13 lim (marked l) p n e = elim (bind-refused (enter_all lim p l) _ n e) [ inl f ↦ all-13 lim l p n f | inr r ↦ intern-13 lim r.0.pool (marked_node r.0.runs) n r.2 ]

  all-13 : (lim : Limits) (l : Trees) (p : Pool) (n : ℕ) → enter_all lim p l ≡ refused n → n ≡ 13
  all-13 lim none p n e = absurd (ok-refused e)
  all-13 lim (also a l) p n e = elim (bind-refused (enter lim p a) _ n e) [
    | inl f ↦ enter-13 lim a p n f
    | inr r ↦ elim (bind-refused (enter_all lim r.0.pool l) _ n r.2) [ inl f ↦ all-13 lim l r.0.pool n f | inr q ↦ absurd (ok-refused q.2) ]
  ]

-- ---- 17 exactly where the text is no formula, whatever the pool; 13 only where it is one
pub read-17 : (lim : Limits) (t : List ℕ) (p : Pool) (s : List ℕ) → read_card lim t p s ≡ refused 17 → (a : Tree) → FormulaText t s a → ⊥
unfolding read_card
read-17 lim t p s e a f = elim (bind-refused (read_text t s) (enter lim p) 17 e) [
  | inl g ↦ refused-ok (sym g ∙ text-read t s a f)
  | inr r ↦ absurd (let z : ◌≡◌ {A = ℕ} 17 13 = enter-13 lim r.0 p 17 r.2 in omega arith)
]

pub no-formula : (lim : Limits) (t : List ℕ) (p : Pool) (s : List ℕ) → ((a : Tree) → FormulaText t s a → ⊥) → read_card lim t p s ≡ refused 17
unfolding read_card
no-formula lim t p s h = go (read_text t s) refl
  where
    go : (r : Res Tree) → read_text t s ≡ r → (read_text t s >>= enter lim p) ≡ refused 17
    go (ok a) e = absurd (h a (read-text t s a e))
    go (refused n) e = ap (λ (z : Res Tree). z >>= enter lim p) e ∙ ap refused (text-17 t s n e)

pub read-13 : (lim : Limits) (t : List ℕ) (p : Pool) (s : List ℕ) (n : ℕ) → n ≢ 17 → read_card lim t p s ≡ refused n → (n ≡ 13) × ((a : Tree) × FormulaText t s a × (enter lim p a ≡ refused 13))
unfolding read_card
read-13 lim t p s n h e = elim (bind-refused (read_text t s) (enter lim p) n e) [
  | inl g ↦ absurd (h (text-17 t s n g))
  | inr r ↦ let z = enter-13 lim r.0 p n r.2 in (z, (r.0, read-text t s r.0 r.1, r.2 ∙ ap refused z))
]

-- ---- writing: 18 first, then 14
abbrev signed : List ℕ → Pool → ℕ → Bool
signed t p a = all (proper_mark t) (write t 0 (card_tree p a))

abbrev card : List ℕ → Pool → ℕ → List ℕ
card t p a = spell t (write t 0 (card_tree p a))

pub write-18 : (t : List ℕ) (p : Pool) (a n : ℕ) → signed t p a ≡ false → write_card t p a n ≡ refused 18
unfolding write_card
write-18 t p a n e = rw e refl

pub write-14 : (t : List ℕ) (p : Pool) (a n : ℕ) → signed t p a ≡ true → n < length (card t p a) → write_card t p a n ≡ refused 14
unfolding write_card
write-14 t p a n e h = rw (e, lt-leb (length (card t p a)) n h) refl

pub write-ok : (t : List ℕ) (p : Pool) (a n : ℕ) → signed t p a ≡ true → length (card t p a) ≤ n → write_card t p a n ≡ ok (card t p a)
unfolding write_card
write-ok t p a n e h = rw (e, le-leb (length (card t p a)) n h) refl

-- reading refuses with 17 or 13
pub read_only : (lim : Limits) (t : List ℕ) (p : Pool) (s : List ℕ) (n : ℕ) → read_card lim t p s ≡ refused n → (n ≡ 17) ⊎ (n ≡ 13)
unfolding read_card
read_only lim t p s n e = elim (bind-refused (read_text t s) (enter lim p) n e) [ inl f ↦ inl (text-17 t s n f) | inr r ↦ inr (enter-13 lim r.0 p n r.2) ]
