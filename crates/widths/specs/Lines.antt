-- The bytes of the listing's lines, read from the buffers.
use Rattle.std.specs.Prelude.{List, [], ◌∷◌, ◌++◌, ℕ, zero, suc, ◌+◌, ◌*◌, ◌-◌, ◌/◌, ◌%◌, ◌≤◌, ◌<◌, eqb, length, get_or}
use Rattle.spec.specs.Bytes.{pick, each, text, decimal, digits}
use Rattle.spec.specs.Pool.{LIT, VARIANTS}
use Rattle.terms.specs.Buffers.{part, first_in, head_in, value_in, count_in}

-- "child:count runs", with the space before; a run is one number, a child stands by its number in the order
abbrev pub run_in : List ℕ → ℕ → List ℕ
run_in w r = (text " " ++ decimal (get_or w (2 * (r % 16384)) 0 - 1)) ++ (text ":" ++ decimal (r / 16384))

unfoldable pub runs_in : List ℕ → List ℕ → ℕ → ℕ → List ℕ
unfolding digits each part text
runs_in runs w from n = each (run_in w) (part runs from n)

-- "`lit` operation value, or `op` operation and .., or `variants` and .."; h is the head's rank and the operation in one
unfoldable pub head_bytes : ℕ → ℕ → List ℕ
unfolding digits text
head_bytes h v =
    pick (eqb (h / 64) LIT) ((text " lit " ++ decimal (h % 64)) ++ (text " " ++ decimal v))
    (pick (eqb (h / 64) VARIANTS) (text " variants") (text " op " ++ decimal (h % 64)))

abbrev pub term_in : List ℕ → ℕ → ℕ
term_in w k = get_or w (2 * k + 1) 0

-- line k: the k-th term of the order
unfoldable pub line_in : List ℕ → List ℕ → List ℕ → ℕ → List ℕ
unfolding digits head_bytes runs_in
line_in terms runs w k =
    let t = term_in w k in
    decimal k ++ (head_bytes (head_in terms t) (value_in terms t) ++ (runs_in runs w (first_in terms t) (first_in terms (t + 1) - first_in terms t) ++ (10 ∷ [])))

-- n lines from line k on
unfoldable pub lines_in : List ℕ → List ℕ → List ℕ → ℕ → ℕ → List ℕ
unfolding line_in
lines_in terms runs w k zero = []
lines_in terms runs w k (suc n) = line_in terms runs w k ++ lines_in terms runs w (suc k) n

-- the children of the runs from .. to - 1 have numbers
abbrev pub Named : List ℕ → List ℕ → ℕ → ℕ → Type 0
Named w runs from to = (i : ℕ) → from ≤ i → i < to → 0 < get_or w (2 * (get_or runs i 0 % 16384)) 0

-- The buffer is ready for n lines.
pub record Ready (terms runs w : List ℕ) (n : ℕ) : Type 0 where
  pub room : 2 * n ≤ length w
  pub few : n ≤ 16384
  pub term : (k : ℕ) → k < n → term_in w k < count_in terms
  pub named : (k : ℕ) → k < n → Named w runs (first_in terms (term_in w k)) (first_in terms (term_in w k + 1))
