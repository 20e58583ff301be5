-- "A formula is any text so written, further brackets round any subterm allowed", literally: the writer with a number of further bracket pairs round each subterm makes exactly the formulas.
use Rattle.std.specs.Prelude.{◌≡◌, refl, Bool, true, false, List, [], ◌∷◌, ◌++◌, ℕ, zero, suc, ◌≤◌, ltb}
use Rattle.std.proofs.Common.{sym, ap, ap₂, ◌∙◌, zero-le, arith, ltb-false, le-ltb}
use Rattle.formula.specs.Card.{Tree, lit, two, many, marked, Trees, none, also, Mark, literal, between, list, next, close, opens, shuts, begin, or, end, prec_of, left_level, right_level, bracketed, Formula, aLiteral, aTwo, aList, aChoice, brackets, Items, nothing, single, more}
use Rattle.formula_laws.specs.Fewest.{Shaped, two_shaped, many-shaped, marked-shaped, ShapedAll, also-shaped}

-- ---- a term with a number of further pairs at each subterm
mutual
  pub data Dressed : Type 0 where
    lit_d : ℕ → ℕ → ℕ → Dressed
    two_d : ℕ → ℕ → Dressed → Dressed → Dressed
    many_d : ℕ → ℕ → Dresseds → Dressed
    marked_d : ℕ → Dresseds → Dressed

  pub data Dresseds : Type 0 where
    none_d : Dresseds
    also_d : Dressed → Dresseds → Dresseds

unfoldable mutual
  pub bare : Dressed → Tree
  bare (lit_d k o v) = lit o v
  bare (two_d k o a b) = two o (bare a) (bare b)
  bare (many_d k o l) = many o (bare_all l)
  bare (marked_d k l) = marked (bare_all l)

  pub bare_all : Dresseds → Trees
  bare_all none_d = none
  bare_all (also_d a l) = also (bare a) (bare_all l)

unfoldable pub wrap : ℕ → List Mark → List Mark
wrap zero s = s
wrap (suc k) s = opens ∷ wrap k s ++ (shuts ∷ [])

-- `write`, with `wrap k` round each subterm
unfoldable mutual
  unfolding wrap

  pub write_dressed : List ℕ → ℕ → Dressed → List Mark
  write_dressed t m (lit_d k o v) = wrap k (literal v o ∷ [])
  write_dressed t m (two_d k o a b) =
      wrap k (bracketed (ltb (prec_of t o) m) (write_dressed t (left_level t (prec_of t o)) a ++ (between o ∷ write_dressed t (right_level t (prec_of t o)) b)))
  write_dressed t m (many_d k o l) = wrap k (list o ∷ write_dresseds t next l ++ (close ∷ []))
  write_dressed t m (marked_d k l) = wrap k (begin ∷ write_dresseds t or l ++ (end ∷ []))

  pub write_dresseds : List ℕ → Mark → Dresseds → List Mark
  write_dresseds t sep none_d = []
  write_dresseds t sep (also_d a none_d) = write_dressed t 0 a
  write_dresseds t sep (also_d a (also_d b l)) = write_dressed t 0 a ++ (sep ∷ write_dresseds t sep (also_d b l))

-- ---- every such text is a formula
wrapped : (t : List ℕ) (m k : ℕ) (s : List Mark) (a : Tree) → ((n : ℕ) → Formula t n (wrap k s) a) → Formula t m (wrap (suc k) s) a
unfolding wrap
wrapped t m k s a f = brackets (wrap k s) (f 0) refl

wrap-any : (t : List ℕ) (k : ℕ) (s : List Mark) (a : Tree) → ((n : ℕ) → Formula t n s a) → (m : ℕ) → Formula t m (wrap k s) a
unfolding wrap
wrap-any t zero s a f m = f m
wrap-any t (suc k) s a f m = brackets (wrap k s) (wrap-any t k s a f 0) refl

two-dressed : (t : List ℕ) (k m o : ℕ) (a b : Tree) (l r : List Mark) (x : Bool) → (x ≡ false → m ≤ prec_of t o) → Formula t (left_level t (prec_of t o)) l a → Formula t (right_level t (prec_of t o)) r b
    → Formula t m (wrap k (bracketed x (l ++ (between o ∷ r)))) (two o a b)
unfolding wrap
two-dressed t k m o a b l r true h f g = wrap-any t k _ _ (λ n. brackets (l ++ (between o ∷ r)) (aTwo l r zero-le f g refl) refl) m
two-dressed t zero m o a b l r false h f g = aTwo l r (h refl) f g refl
two-dressed t (suc k) m o a b l r false h f g = brackets (wrap k (l ++ (between o ∷ r))) (two-dressed t k 0 o a b l r false (λ e. zero-le) f g) refl

mutual
  unfolding write_dressed bare

  pub dressed-formula : (t : List ℕ) (d : Dressed) (m : ℕ) → Shaped (bare d) → Formula t m (write_dressed t m d) (bare d)
  dressed-formula t (lit_d k o v) m h = wrap-any t k _ _ (λ n. aLiteral refl) m
  dressed-formula t (two_d k o a b) m (two_shaped x y) =
      two-dressed t k m o (bare a) (bare b) _ _ (ltb (prec_of t o) m) (ltb-false (prec_of t o) m) (dressed-formula t a (left_level t (prec_of t o)) x) (dressed-formula t b (right_level t (prec_of t o)) y)
  dressed-formula t (many_d k o l) m (many-shaped c x) = wrap-any t k _ _ (λ n. aList (write_dresseds t next l) c (dresseds-formula t next l x) refl) m
  dressed-formula t (marked_d k l) m (marked-shaped c x) = wrap-any t k _ _ (λ n. aChoice (write_dresseds t or l) c (dresseds-formula t or l x) refl) m

  dresseds-formula : (t : List ℕ) (sep : Mark) (l : Dresseds) → ShapedAll (bare_all l) → Items t sep (write_dresseds t sep l) (bare_all l)
  dresseds-formula t sep none_d h = nothing refl
  dresseds-formula t sep (also_d a none_d) (also-shaped x y) = single (dressed-formula t a 0 x)
  dresseds-formula t sep (also_d a (also_d b l)) (also-shaped x y) = more (write_dressed t 0 a) (write_dresseds t sep (also_d b l)) (dressed-formula t a 0 x) (dresseds-formula t sep (also_d b l) y) refl

-- ---- every formula is such a text
pub record Dress (t : List ℕ) (m : ℕ) (s : List Mark) (a : Tree) : Type 0 where
  pub dress : Dressed
  pub is : bare dress ≡ a
  pub text : write_dressed t m dress ≡ s

pub record DressAll (t : List ℕ) (sep : Mark) (s : List Mark) (l : Trees) : Type 0 where
  pub dress : Dresseds
  pub is : bare_all dress ≡ l
  pub text : write_dresseds t sep dress ≡ s

wrap-inner : (k : ℕ) (s : List Mark) → wrap k (opens ∷ s ++ (shuts ∷ [])) ≡ opens ∷ wrap k s ++ (shuts ∷ [])
unfolding wrap
wrap-inner zero s = refl
wrap-inner (suc k) s = ap (λ z. opens ∷ z ++ (shuts ∷ [])) (wrap-inner k s)

bracket-two : (k : ℕ) (x y : Bool) (s : List Mark) → y ≡ false → (j : ℕ) × (wrap j (bracketed x s) ≡ opens ∷ wrap k (bracketed y s) ++ (shuts ∷ []))
unfolding wrap
bracket-two k x true s e = absurd (let z : ◌≡◌ {A = ℕ} 0 1 = cc in omega arith)
bracket-two k true false s e = (k, wrap-inner k s)
bracket-two k false false s e = (suc k, refl)

-- one pair more round the whole, wherever it stands
one-pair : (t : List ℕ) (m : ℕ) (d : Dressed) (s : List Mark) (a : Tree) → bare d ≡ a → s ≡ opens ∷ write_dressed t 0 d ++ (shuts ∷ []) → Dress t m s a
unfolding write_dressed bare wrap
one-pair t m (lit_d k o v) s a e z = record { dress = lit_d (suc k) o v; is = e; text = sym z }
one-pair t m (many_d k o l) s a e z = record { dress = many_d (suc k) o l; is = e; text = sym z }
one-pair t m (marked_d k l) s a e z = record { dress = marked_d (suc k) l; is = e; text = sym z }
one-pair t m (two_d k o b c) s a e z =
    let (j, f) = bracket-two k (ltb (prec_of t o) m) (ltb (prec_of t o) 0) _ (le-ltb (prec_of t o) 0 zero-le) in
    record { dress = two_d j o b c; is = e; text = f ∙ sym z }

two-text : (t : List ℕ) (m o : ℕ) (d c : Dressed) → m ≤ prec_of t o → write_dressed t m (two_d 0 o d c) ≡ write_dressed t (left_level t (prec_of t o)) d ++ (between o ∷ write_dressed t (right_level t (prec_of t o)) c)
unfolding write_dressed wrap
two-text t m o d c h = ap (λ (x : Bool). bracketed x (write_dressed t (left_level t (prec_of t o)) d ++ (between o ∷ write_dressed t (right_level t (prec_of t o)) c))) (le-ltb (prec_of t o) m h)

more-dressed : (t : List ℕ) (sep : Mark) (s q r : List Mark) (a b : Tree) (l : Trees) → Dress t 0 q a → DressAll t sep r (also b l) → s ≡ q ++ (sep ∷ r) → DressAll t sep s (also a (also b l))
unfolding bare write_dresseds
more-dressed t sep s q r a b l x y z = go y.dress y.is y.text
  where
    go : (d : Dresseds) → bare_all d ≡ also b l → write_dresseds t sep d ≡ r → DressAll t sep s (also a (also b l))
    go none_d e f = absurd (let z : ◌≡◌ {A = ℕ} 0 1 = cc in omega arith)
    go (also_d c d) e f = record { dress = also_d x.dress (also_d c d); is = ap₂ also x.is e; text = ap₂ (λ (u w : List Mark). u ++ (sep ∷ w)) x.text f ∙ sym z }

mutual
  unfolding write_dressed bare wrap

  pub formula-dressed : (t : List ℕ) {m : ℕ} {s : List Mark} {a : Tree} → Formula t m s a → Dress t m s a
  formula-dressed t (aLiteral {v = v} {o = o} e) = record { dress = lit_d 0 o v; is = refl; text = sym e }
  formula-dressed t {m = m} (aTwo {o = o} l r h f g e) =
      let x = formula-dressed t f in
      let y = formula-dressed t g in
      record { dress = two_d 0 o x.dress y.dress; is = ap₂ (two o) x.is y.is; text = two-text t m o x.dress y.dress h ∙ ap₂ (λ (u w : List Mark). u ++ (between o ∷ w)) x.text y.text ∙ sym e }
  formula-dressed t (aList {o = o} r c i e) =
      let x = items-dressed t i in
      record { dress = many_d 0 o x.dress; is = ap (many o) x.is; text = ap (λ (u : List Mark). list o ∷ u ++ (close ∷ [])) x.text ∙ sym e }
  formula-dressed t (aChoice r c i e) =
      let x = items-dressed t i in
      record { dress = marked_d 0 x.dress; is = ap marked x.is; text = ap (λ (u : List Mark). begin ∷ u ++ (end ∷ [])) x.text ∙ sym e }
  formula-dressed t {m = m} {s = s} {a = a} (brackets r f e) =
      let x = formula-dressed t f in
      one-pair t m x.dress s a x.is (e ∙ ap (λ (u : List Mark). opens ∷ u ++ (shuts ∷ [])) (sym x.text))

  items-dressed : (t : List ℕ) {sep : Mark} {s : List Mark} {l : Trees} → Items t sep s l → DressAll t sep s l
  items-dressed t (nothing e) = record { dress = none_d; is = refl; text = sym e }
  items-dressed t (single f) = let x = formula-dressed t f in record { dress = also_d x.dress none_d; is = ap (λ z. also z none) x.is; text = x.text }
  items-dressed t {sep = sep} {s = s} (more {a = a} {b = b} {l = l} q r f i e) = more-dressed t sep s q r a b l (formula-dressed t f) (items-dressed t i) e
