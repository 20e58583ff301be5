-- What the functions answer, by the definitions of lines read: the rest of the text stands at the place that they answer.
use Rattle.std.specs.Prelude.{◌≡◌, Option, Some, None, List, ℕ, ◌+◌, ◌≤◌, ◌<◌, length, drop}
use Rattle.spec.specs.Bytes.{Res, ok, refused}
use Rattle.formula.specs.Lines.{Cut, cut_word, cut_number}

-- ---- a word
abbrev pub word_of : List ℕ → Option ℕ → Res (List ℕ)
word_of s (Some e) = ok (drop e s)
word_of s None = refused 17

-- the place is a place of the text, behind so many bytes
abbrev pub PlaceBehind : List ℕ → ℕ → Option ℕ → Type 0
PlaceBehind s at (Some e) = (e ≡ at) × (e ≤ length s)
PlaceBehind s at None = Unit

pub record CutsWord (w s : List ℕ) (at : ℕ) (r : Option ℕ) : Type 0 where
  pub answer : word_of s r ≡ cut_word w (drop at s)
  pub behind : PlaceBehind s (at + length w) r

-- ---- a number
abbrev pub number_of : List ℕ → Option (ℕ × ℕ) → Cut ℕ
number_of s (Some (v, e)) = ok (v, drop e s)
number_of s None = refused 17

-- the place is a place of the text behind `at`; the number is at most `most`
abbrev pub NumberBehind : ℕ → List ℕ → ℕ → Option (ℕ × ℕ) → Type 0
NumberBehind most s at (Some (v, e)) = (at < e) × (e ≤ length s) × (v ≤ most)
NumberBehind most s at None = Unit

pub record CutsNumber (most : ℕ) (s : List ℕ) (at : ℕ) (r : Option (ℕ × ℕ)) : Type 0 where
  pub answer : number_of s r ≡ cut_number most (drop at s)
  pub behind : NumberBehind most s at r
