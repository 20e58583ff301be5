-- Term buffers and kept best terms afterwards.
use Rattle.std.specs.Prelude.{◌≡◌, List, ℕ, length, replicate}

-- every number is zero
abbrev pub Cleared : List ℕ → List ℕ → List ℕ → List ℕ → List ℕ → List ℕ → Type 0
Cleared terms runs best terms' runs' best' = (terms' ≡ replicate (length terms) 0) × (runs' ≡ replicate (length runs) 0) × (best' ≡ replicate (length best) 0)
