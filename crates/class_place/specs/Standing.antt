-- (02, Paper 6) A class in a list of terms: how many terms a buffer has places for, whether the class stands in the list, and its count there.
use Rattle.std.specs.Prelude.{Bool, List, ℕ, ltb, eqb, length, get_or}
use Rattle.spec.specs.Bytes.{both}
use Rattle.spec.specs.Monomial.{Monomial}
use Rattle.monomial_terms.specs.Terms.{terms, position}

-- how many terms a buffer has places for
abbrev pub places : List ℕ → ℕ
places s = length (terms s)

-- class c stands in the list
unfoldable pub stands : ℕ → Monomial → Bool
unfolding position
stands c m = both (ltb (position c m) (length m)) (eqb (get_or m (position c m) (0, 0)).0 c)

-- the count at c's place
abbrev pub count_there : ℕ → Monomial → ℕ
count_there c m = (get_or m (position c m) (0, 0)).1
