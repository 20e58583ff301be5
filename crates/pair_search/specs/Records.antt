-- "The pair table is a lent slice of records, searched from its start": a record, and what the search gives.
use Rattle.std.specs.Prelude.{ℕ, List, map, take}
use Rattle.spec.specs.Bytes.{Two, same_two, place}
use Rattle.pair_search.specs.declared.Pair.{Pair}

-- a record as a pair of numbers, and a pair of numbers as a record
abbrev pub two_of : Pair → Two
two_of p = (p.left, p.right)

abbrev pub record_of : Two → Pair
record_of p = record { left = p.0; right = p.1 }

-- the record of a cleared table
abbrev pub none : Pair
none = record { left = 0; right = 0 }

-- the pairs that the first `count` records are
abbrev pub held : List Pair → ℕ → List Two
held s count = map two_of (take count s)

-- "searched from its start": the place of the first of `count` records that is the pair; past them where none is
abbrev pub find_of : List Pair → ℕ → Two → ℕ
find_of s count p = place (same_two p) (held s count)
