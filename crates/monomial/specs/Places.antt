-- The monomial at a place of a class, and what a function that writes it leaves.
use Rattle.std.specs.Prelude.{true, false, List, ℕ, ◌+◌, ◌*◌, ◌≤◌, ltb}
use Rattle.spec.specs.Image.{Tables, the_class, the_member, children_of}
use Rattle.spec.specs.Monomial.{Monomial, add_all, monomial, total, itself, COUNT}
use Rattle.monomial_terms.specs.Terms.{Holds}

-- the total of 64 children of 32-bit counts
abbrev pub TOTAL : ℕ
TOTAL = 64 * COUNT

-- A member's monomial, or a class itself once, has at most 64 terms and this total.
pub record Made (m : Monomial) (s s' : List ℕ) (r : ℕ) : Type 0 where
  pub holds : Holds m s s' r
  pub few : r ≤ 64
  pub small : total m ≤ TOTAL

-- the monomial at place x of class c: of member x, or of the class itself once where x is past its members
unfoldable pub monomial_at : Tables → ℕ → ℕ → Monomial
unfolding add_all
monomial_at t c x = elim (ltb x ((the_class t c).first + (the_class t c).count)) [ true ↦ monomial (children_of t (the_member t x)) | false ↦ itself c ]
