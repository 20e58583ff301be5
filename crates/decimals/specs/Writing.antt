-- Writing: bytes from a place on, the rest of the output as it was.
use Rattle.std.specs.Prelude.{◌≡◌, List, ◌++◌, ℕ, ◌+◌, length, take, drop}

abbrev pub put_at : List ℕ → ℕ → List ℕ → List ℕ
put_at out at l = take at out ++ (l ++ drop (at + length l) out)

-- bytes l written into out from place at on: the output afterwards, and the place after them
pub record Wrote (l out : List ℕ) (at : ℕ) (out' : List ℕ) (r : ℕ) : Type 0 where
  pub bytes : out' ≡ put_at out at l
  pub after : r ≡ at + length l
