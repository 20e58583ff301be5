-- A monomial in a lent buffer: term i, a class and its count, stands at numbers 2 i and 2 i + 1; the first n terms hold a monomial of n classes.
use Rattle.std.specs.Prelude.{◌≡◌, List, [], ◌∷◌, ◌++◌, ℕ, suc, ◌+◌, ◌<◌, ◌^◌, ltb, length, take, drop}
use Rattle.spec.specs.Bytes.{Two, pick}
use Rattle.spec.specs.Monomial.{Monomial, total}

-- 64 children and the identity
abbrev pub TERMS : ℕ
TERMS = 65

-- the length of a buffer
abbrev pub NUMBERS : ℕ
NUMBERS = 130

unfoldable pub terms : List ℕ → List Two
terms [] = []
terms (x ∷ []) = []
terms (x ∷ y ∷ s) = (x, y) ∷ terms s

-- the last number of an odd buffer, which no term has
unfoldable pub rest : List ℕ → List ℕ
rest [] = []
rest (x ∷ []) = x ∷ []
rest (x ∷ y ∷ s) = rest s

abbrev pub held : ℕ → List ℕ → Monomial
held n s = take n (terms s)

-- how many classes at the front are below c
unfoldable pub position : ℕ → Monomial → ℕ
position c [] = 0
position c (t ∷ m) = pick (ltb t.0 c) (suc (position c m)) 0

-- m at the front, the terms behind it as they were
abbrev pub front : Monomial → List Two → List Two
front m l = m ++ drop (length m) l

-- What a function that writes m leaves: the number of m's terms, and the whole buffer (its terms fix it: `terms-whole` of TermLaws).
pub record Holds (m : Monomial) (s s' : List ℕ) (r : ℕ) : Type 0 where
  pub len : r ≡ length m
  pub whole : terms s' ≡ front m (terms s)

-- The buffer has its length, there is room for one term more, and adding k to a count stays within 64 bits.
pub record Roomy (n k : ℕ) (s : List ℕ) : Type 0 where
  pub numbers : length s ≡ NUMBERS
  pub room : n < TERMS
  pub fits : total (held n s) + k < 2 ^ 64
