-- What is cut off at a place of a text.
use Rattle.std.specs.Prelude.{Option, Some, None, ◌≡◌, Bool, true, false, List, [], ◌∷◌, ◌++◌, ℕ, ◌+◌, length, drop}
use Rattle.spec.specs.Bytes.{both, place, up_from}
use Rattle.formula.specs.Card as card
use Rattle.formula.specs.Card.{operations, sign, proper, spell_mark}
use Rattle.formula.specs.Lexer.{starts_with, mark_at, stands_at}
use Rattle.card_cut.specs.declared.Mark.{Mark}
use Rattle.card_cut.specs.declared.Mark.TheVariants as M

-- the mark of the definitions
abbrev pub mark_of : Mark → card.Mark
mark_of (M.Literal v o) = card.literal v o
mark_of (M.Between o) = card.between o
mark_of (M.List o) = card.list o
mark_of M.Next = card.next
mark_of M.Close = card.close
mark_of M.Opens = card.opens
mark_of M.Shuts = card.shuts
mark_of M.Begin = card.begin
mark_of M.Or = card.or
mark_of M.End = card.end

-- the mark that the text from a place on begins with, and the place behind it; nothing where none stands there
abbrev pub Cuts : List ℕ → List ℕ → ℕ → Option (Mark × ℕ) → Type 0
Cuts t s at (Some (m, e)) =
    (stands_at t (mark_at t (drop at s)) (drop at s) ≡ true) × (mark_of m ≡ mark_at t (drop at s)) × (e ≡ at + length (spell_mark t (mark_at t (drop at s))))
Cuts t s at None = stands_at t (mark_at t (drop at s)) (drop at s) ≡ false

-- an operation is proper, and its sign stands in front with a byte behind it; the first such operation
abbrev pub fits : List ℕ → ℕ → List ℕ → ℕ → Bool
fits t last s o = both (proper t o) (starts_with (sign t o ++ (last ∷ [])) s)

abbrev pub sign_at : List ℕ → ℕ → List ℕ → ℕ
sign_at t last s = place (fits t last s) (up_from 0 (operations t))
