-- "Unequal totals are padded with the identity; without one there is no pair." What the two buffers of a pair hold after padding, and the answer.
use Rattle.std.specs.Prelude.{◌≡◌, Bool, false, List, [], ◌∷◌, ℕ, ◌-◌, ◌≤◌, ltb, eqb, length, Option, Some, None}
use Rattle.spec.specs.Bytes.{pick, both, all}
use Rattle.spec.specs.Image.{NO-IDENTITY}
use Rattle.spec.specs.Monomial.{Monomial, MonomialPair, insert_add, total, pair_of, both_itself, narrow}
use Rattle.monomial_terms.specs.Terms.{TERMS, NUMBERS, terms, held, front}
use Rattle.monomial.specs.Places.{TOTAL}

-- m, whose total is a, with as many identities as it lacks beside a total of b
abbrev pub level_by : ℕ → Monomial → ℕ → ℕ → Monomial
level_by identity m a b = pick (ltb a b) (pick (eqb identity NO-IDENTITY) m (insert_add identity (b - a) m)) m

unfoldable pub levelled : ℕ → Monomial → Monomial → Monomial
unfolding insert_add total
levelled identity a b = level_by identity a (total a) (total b)

-- totals differ, and there is no identity
abbrev pub unmatched : ℕ → ℕ → ℕ → Bool
unmatched identity a b = pick (eqb a b) false (eqb identity NO-IDENTITY)

abbrev pub both_narrow : Monomial → Monomial → Bool
both_narrow a b = both (narrow a) (narrow b)

-- the numbers of rows and columns; nothing where there is no pair, both classes are themselves, or a count is above 4,294,967,295
unfoldable pub padded_of : ℕ → Monomial → Monomial → Option (ℕ × ℕ)
unfolding all levelled total
padded_of identity a b =
    pick (unmatched identity (total a) (total b)) None
    (pick (both_narrow (levelled identity a b) (levelled identity b a)) (Some (length (levelled identity a b), length (levelled identity b a))) None)

unfoldable pub answer_of : ℕ → ℕ → ℕ → Monomial → Monomial → Option (ℕ × ℕ)
unfolding padded_of
answer_of l r identity a b = pick (both_itself l r a b) None (padded_of identity a b)

-- "At most 65 rows and 65 columns."
abbrev pub Few : Option (ℕ × ℕ) → Type 0
Few (Some p) = (p.0 ≤ TERMS) × (p.1 ≤ TERMS)
Few None = Unit

-- What padding a and b leaves: the answer, and both buffers whole.
pub record Pads (want : Option (ℕ × ℕ)) (identity : ℕ) (a b : Monomial) (s u s' u' : List ℕ) (x : Option (ℕ × ℕ)) : Type 0 where
  pub answer : x ≡ want
  pub rows : terms s' ≡ front (levelled identity a b) (terms s)
  pub cols : terms u' ≡ front (levelled identity b a) (terms u)
  pub few : Few x

-- Both buffers hold monomials as `Made` says, with room for the identity.
pub record Paddable (n m : ℕ) (s u : List ℕ) : Type 0 where
  pub numbers_left : length s ≡ NUMBERS
  pub numbers_right : length u ≡ NUMBERS
  pub few_left : n ≤ 64
  pub few_right : m ≤ 64
  pub small_left : total (held n s) ≤ TOTAL
  pub small_right : total (held m u) ≤ TOTAL

-- the pair that an answer stands for
abbrev pub sides_of : Option (ℕ × ℕ) → Monomial → Monomial → List MonomialPair
sides_of (Some p) a b = pair_of a b ∷ []
sides_of None a b = []
