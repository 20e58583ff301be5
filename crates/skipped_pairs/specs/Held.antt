-- The facts of a class's monomials in a lent buffer: place i's stand at numbers 4 i (the place), 4 i + 1 (total), 4 i + 2 (most) and 4 i + 3 (kin).
use Rattle.std.specs.Prelude.{List, ℕ, ◌+◌, ◌*◌, get_or}
use Rattle.skips.specs.Facts.{Facts}

-- 1,024 members and the class itself
abbrev pub PLACES : ℕ
PLACES = 1025

abbrev pub place_in : List ℕ → ℕ → ℕ
place_in s i = get_or s (4 * i) 0

abbrev pub facts_in : List ℕ → Facts
facts_in s = record {
  total = λ i. get_or s (4 * i + 1) 0;
  most = λ i. get_or s (4 * i + 2) 0;
  kin = λ i. get_or s (4 * i + 3) 0;
}
