-- "children of commutative kinds, sorted", on runs as numbers and in place.
use Rattle.std.specs.Prelude.{Bool, true, false, List, [], ◌∷◌, ◌++◌, ℕ, ◌%◌, length, take, drop}
use Rattle.spec.specs.Bytes.{pick}
use Rattle.spec.specs.Pool.{Pool, structural_cmp, is_greater}
use Rattle.terms.specs.Buffers.{part}

unfoldable pub insert_number : Pool → ℕ → List ℕ → List ℕ
unfolding structural_cmp
insert_number p x [] = x ∷ []
insert_number p x (y ∷ l) = elim (is_greater (structural_cmp (length p) p (x % 16384) (y % 16384))) [ true ↦ y ∷ insert_number p x l | false ↦ x ∷ y ∷ l ]

unfoldable pub sort_numbers : Pool → List ℕ → List ℕ
unfolding insert_number
sort_numbers p [] = []
sort_numbers p (x ∷ l) = insert_number p x (sort_numbers p l)

-- the numbers l in a buffer from place i to before n; the others as they were
abbrev pub within : List ℕ → ℕ → ℕ → List ℕ → List ℕ
within list i n l = take i list ++ (l ++ drop n list)

-- the first n runs in the order in which they are entered
abbrev pub ordered_in : Bool → Pool → List ℕ → ℕ → List ℕ
ordered_in commutative p list n = pick commutative (sort_numbers p (part list 0 n)) (part list 0 n)
