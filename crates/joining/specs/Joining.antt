-- Runs as numbers: "neighbours with the same child joined", from the left and in place.
use Rattle.std.specs.Prelude.{◌≡◌, List, [], ◌∷◌, ◌++◌, ℕ, ◌+◌, ◌*◌, ◌/◌, ◌%◌, eqb, length, drop}
use Rattle.spec.specs.Bytes.{pick}
use Rattle.terms.specs.Buffers.{part}

-- one run more at the end
unfoldable pub append_number : List ℕ → ℕ → List ℕ
append_number [] x = x ∷ []
append_number (y ∷ []) x = pick (eqb (y % 16384) (x % 16384)) ((y + x / 16384 * 16384) ∷ []) (y ∷ x ∷ [])
append_number (y ∷ z ∷ l) x = y ∷ append_number (z ∷ l) x

unfoldable pub join_numbers : List ℕ → List ℕ → List ℕ
unfolding append_number
join_numbers a [] = a
join_numbers a (x ∷ l) = join_numbers (append_number a x) l

-- a buffer that begins with l; what stands behind is as it was
abbrev pub over : List ℕ → List ℕ → List ℕ
over l list = l ++ drop (length l) list

-- a buffer that begins with l, which has n numbers
pub record Begins (l list : List ℕ) (list' : List ℕ) (n : ℕ) : Type 0 where
  pub many : n ≡ length l
  pub numbers : list' ≡ over l list

-- the first n runs of the buffer joined
abbrev pub joined_in : List ℕ → ℕ → List ℕ
joined_in list n = join_numbers [] (part list 0 n)
