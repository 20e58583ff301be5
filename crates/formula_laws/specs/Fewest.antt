-- What is written is a formula of the term, and no formula of the term has fewer brackets.
use Rattle.std.specs.Prelude.{◌≡◌, refl, ◌≢◌, Bool, true, false, List, [], ◌∷◌, ◌++◌, ℕ, suc, ◌+◌, ◌≤◌, ltb}
use Rattle.std.proofs.Common.{sym, ap, zero-le, le_of_eq, arith, ltb-false, le-ltb}
use Rattle.formula.specs.Card.{Tree, lit, two, many, marked, Trees, none, also, count, branches, Mark, literal, between, list, next, close, opens, shuts, begin, or, end, prec_of, left_level, right_level, bracketed, write, write_all, Formula, aLiteral, aTwo, aList, aChoice, brackets, Items, nothing, single, more}

-- ---- terms as they are: no list of two, and as many branches as a marked place has
mutual
  pub data Shaped : Tree → Type 0 where
    lit-shaped : {o v : ℕ} → Shaped (lit o v)
    two_shaped : {o : ℕ} {a b : Tree} → Shaped a → Shaped b → Shaped (two o a b)
    many-shaped : {o : ℕ} {l : Trees} → count l ≢ 2 → ShapedAll l → Shaped (many o l)
    marked-shaped : {l : Trees} → branches (count l) ≡ true → ShapedAll l → Shaped (marked l)

  pub data ShapedAll : Trees → Type 0 where
    none-shaped : ShapedAll none
    also-shaped : {a : Tree} {l : Trees} → Shaped a → ShapedAll l → ShapedAll (also a l)

-- ---- what is written is a formula
bracketed-two : (t : List ℕ) (m o : ℕ) (a b : Tree) (l r : List Mark) (x : Bool) → (x ≡ false → m ≤ prec_of t o) → Formula t (left_level t (prec_of t o)) l a → Formula t (right_level t (prec_of t o)) r b
    → Formula t m (bracketed x (l ++ (between o ∷ r))) (two o a b)
bracketed-two t m o a b l r true h f g = brackets (l ++ (between o ∷ r)) (aTwo l r zero-le f g refl) refl
bracketed-two t m o a b l r false h f g = aTwo l r (h refl) f g refl

mutual
  unfolding write

  pub written : (t : List ℕ) (m : ℕ) {a : Tree} → Shaped a → Formula t m (write t m a) a
  written t m lit-shaped = aLiteral refl
  written t m (two_shaped {o = o} {a = a} {b = b} x y) =
      bracketed-two t m o a b _ _ (ltb (prec_of t o) m) (ltb-false (prec_of t o) m) (written t (left_level t (prec_of t o)) x) (written t (right_level t (prec_of t o)) y)
  written t m (many-shaped {l = l} c x) = aList (write_all t next l) c (all-written t next x) refl
  written t m (marked-shaped {l = l} c x) = aChoice (write_all t or l) c (all-written t or x) refl

  all-written : (t : List ℕ) (sep : Mark) {l : Trees} → ShapedAll l → Items t sep (write_all t sep l) l
  all-written t sep none-shaped = nothing refl
  all-written t sep (also-shaped {a = a} x none-shaped) = single (written t 0 x)
  all-written t sep (also-shaped {a = a} x (also-shaped {a = b} {l = l} y z)) = more (write t 0 a) (write_all t sep (also b l)) (written t 0 x) (all-written t sep (also-shaped y z)) refl

-- ---- brackets, by their opening marks
abbrev pub is_opening : Mark → ℕ
is_opening (literal v o) = 0
is_opening (between o) = 0
is_opening (list o) = 0
is_opening next = 0
is_opening close = 0
is_opening opens = 1
is_opening shuts = 0
is_opening begin = 0
is_opening or = 0
is_opening end = 0

unfoldable pub bracket_pairs : List Mark → ℕ
bracket_pairs [] = 0
bracket_pairs (c ∷ s) = is_opening c + bracket_pairs s

pub pairs-append : (l r : List Mark) → bracket_pairs (l ++ r) ≡ bracket_pairs l + bracket_pairs r
unfolding bracket_pairs
pairs-append [] r = omega arith
pairs-append (c ∷ l) r = omega (arith, pairs-append l r)

-- a surrounding precedence costs one pair at most
one-more-by : (x y : Bool) (s : List Mark) → (y ≡ false) → bracket_pairs (bracketed x s) ≤ suc (bracket_pairs (bracketed y s))
unfolding bracket_pairs
one-more-by true true s e = omega arith
one-more-by true false s e = omega (arith, pairs-append s (shuts ∷ []))
one-more-by false true s e = omega (arith, pairs-append s (shuts ∷ []))
one-more-by false false s e = omega arith

one_more : (t : List ℕ) (m : ℕ) (a : Tree) → bracket_pairs (write t m a) ≤ suc (bracket_pairs (write t 0 a))
unfolding write
one_more t m (lit o v) = omega arith
one_more t m (two o a b) = one-more-by (ltb (prec_of t o) m) (ltb (prec_of t o) 0) _ (le-ltb (prec_of t o) 0 zero-le)
one_more t m (many o l) = omega arith
one_more t m (marked l) = omega arith

bare-by : (s : List Mark) (x : Bool) → x ≡ false → bracket_pairs (bracketed x s) ≡ bracket_pairs s
unfolding bracket_pairs
bare-by s true e = absurd (let y : ◌≡◌ {A = ℕ} 0 1 = cc in omega arith)
bare-by s false e = refl

two-pairs : (t : List ℕ) (m o : ℕ) (a b : Tree) → m ≤ prec_of t o
    → bracket_pairs (write t m (two o a b)) ≡ bracket_pairs (write t (left_level t (prec_of t o)) a) + bracket_pairs (write t (right_level t (prec_of t o)) b)
unfolding write bracket_pairs
two-pairs t m o a b h =
    let x : bracket_pairs (write t m (two o a b)) ≡ bracket_pairs (write t (left_level t (prec_of t o)) a ++ (between o ∷ write t (right_level t (prec_of t o)) b)) = bare-by _ (ltb (prec_of t o) m) (le-ltb (prec_of t o) m h) in
    omega (arith, x, pairs-append (write t (left_level t (prec_of t o)) a) (between o ∷ write t (right_level t (prec_of t o)) b))

closed-pairs : (x y : Mark) (l : List Mark) → bracket_pairs (x ∷ l ++ (y ∷ [])) ≡ is_opening x + bracket_pairs l + is_opening y
unfolding bracket_pairs
closed-pairs x y l = omega (arith, pairs-append l (y ∷ []))

joined-pairs : (x : Mark) (l r : List Mark) → bracket_pairs (l ++ (x ∷ r)) ≡ bracket_pairs l + (is_opening x + bracket_pairs r)
unfolding bracket_pairs
joined-pairs x l r = pairs-append l (x ∷ r)

-- "Write a term with the fewest brackets"
mutual
  unfolding write

  pub fewest : (t : List ℕ) {m : ℕ} {s : List Mark} {a : Tree} → Formula t m s a → bracket_pairs (write t m a) ≤ bracket_pairs s
  fewest t (aLiteral e) = le_of_eq (ap bracket_pairs (sym e))
  fewest t {m = m} (aTwo {o = o} {a = a} {b = b} l r h f g e) =
      omega (arith, two-pairs t m o a b h, ap bracket_pairs e, joined-pairs (between o) l r, fewest t f, fewest t g)
  fewest t {m = m} (aList {o = o} {l = l} r c i e) = omega (arith, ap bracket_pairs e, closed-pairs (list o) close r, closed-pairs (list o) close (write_all t next l), fewest-all t i)
  fewest t {m = m} (aChoice {l = l} r c i e) = omega (arith, ap bracket_pairs e, closed-pairs begin end r, closed-pairs begin end (write_all t or l), fewest-all t i)
  fewest t {m = m} {a = a} (brackets r f e) = omega (arith, ap bracket_pairs e, closed-pairs opens shuts r, one_more t m a, fewest t f)

  fewest-all : (t : List ℕ) {sep : Mark} {s : List Mark} {l : Trees} → Items t sep s l → bracket_pairs (write_all t sep l) ≤ bracket_pairs s
  fewest-all t (nothing e) = le_of_eq (ap bracket_pairs (sym e))
  fewest-all t (single f) = fewest t f
  fewest-all t {sep = sep} (more {a = a} {b = b} {l = l} q r f i e) =
      omega (arith, ap bracket_pairs e, joined-pairs sep q r, joined-pairs sep (write t 0 a) (write_all t sep (also b l)), fewest t f, fewest-all t i)

-- "leaving out any one bracket pair yields another term or none": at any two places, an opening and a closing one
pub none-spare : (t : List ℕ) (a : Tree) (u v w : List Mark) → write t 0 a ≡ u ++ (opens ∷ v ++ (shuts ∷ w)) → Formula t 0 (u ++ (v ++ w)) a → ⊥
none-spare t a u v w e f =
    omega (arith, fewest t f, ap bracket_pairs e, joined-pairs opens u (v ++ (shuts ∷ w)), joined-pairs shuts v w, pairs-append u (v ++ w), pairs-append v w)
