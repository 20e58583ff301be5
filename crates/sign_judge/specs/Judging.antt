-- A sign judged byte by byte, and against every other one.
use Rattle.std.specs.Prelude.{Bool, false, List, ℕ, eqb}
use Rattle.spec.specs.Bytes.{pick}
use Rattle.formula.specs.Card.{shares_sign}

abbrev pub is_zero : ℕ → Bool
is_zero c = eqb c 0

-- q is another operation with the sign of o
abbrev pub shared : List ℕ → ℕ → ℕ → Bool
shared t o q = pick (eqb q o) false (shares_sign t o q)
