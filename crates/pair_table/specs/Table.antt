-- "The pair table is a lent slice of records": what entering a pair gives, and what it leaves.
use Rattle.std.specs.Prelude.{ℕ, min, Bool, List, ltb, set, length}
use Rattle.spec.specs.Bytes.{Two, same_two, any, pick}
use Rattle.spec.specs.Graph.{PAIRS}
use Rattle.pair_search.specs.declared.Pair.{Pair}
use Rattle.pair_search.specs.Records.{record_of, held, find_of}
use Rattle.pair_table.specs.declared.Entered.{Entered}
use Rattle.pair_table.specs.declared.Entered.TheVariants.{At, New, Full}

-- whether a pair may be entered as number `count`: "a pair beyond 4,096 would be entered" (12), and the table has room
abbrev pub has_room : ℕ → ℕ → Bool
has_room count len = ltb count (min PAIRS len)

-- "looks up or enters (left, right) records": the answer, and the table afterwards
abbrev pub enter_of : List Pair → ℕ → Two → Entered
enter_of s count p = pick (any (same_two p) (held s count)) (At (find_of s count p)) (pick (has_room count (length s)) (New count) Full)

abbrev pub table_after : List Pair → ℕ → Two → List Pair
table_after s count p = pick (any (same_two p) (held s count)) s (pick (has_room count (length s)) (set s count (record_of p)) s)

-- the two parts of `enter` after the search: what is written at a place, and the answer by the place
abbrev pub put_in : List Pair → ℕ → Pair → List Pair
put_in s i p = pick (has_room i (length s)) (set s i p) s

abbrev pub outcome_of : ℕ → ℕ → ℕ → Entered
outcome_of at count len = pick (ltb at (min count len)) (At at) (pick (has_room count len) (New count) Full)
