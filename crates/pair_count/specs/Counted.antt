-- The graph's pairs in the table, and how many of them are counted.
use Rattle.std.specs.Prelude.{ℕ, zero, suc, ◌+◌, ◌-◌, Bool, true, false, List, get_or}
use Rattle.spec.specs.Bytes.{Two, pick}
use Rattle.arrays.specs.Arrays.{unkey}
use Rattle.pair_search.specs.declared.Pair.{Pair}
use Rattle.pair_search.specs.Records.{find_of}
use Rattle.pair_table.specs.declared.Entered.{Entered}
use Rattle.pair_table.specs.declared.Entered.TheVariants.{At, New, Full}
use Rattle.pair_table.specs.Table.{enter_of, table_after}
use Rattle.pair_count.specs.declared.Count.{Count}

-- whether the pair was there already, or found no room
abbrev pub not_new : Entered → Bool
not_new (At i) = true
not_new (New i) = false
not_new Full = true

-- pair k of those whose keys, left * 256 + right, stand from place `from` on
abbrev pub pair_at : List ℕ → ℕ → ℕ → Two
pair_at graph from k = unkey (get_or graph (from + k) 0)

-- n pairs from number k on, each entered after the k before it, up to one that was there already or finds no room: how many records are held then, and the table
abbrev pub entered_of : List ℕ → ℕ → ℕ → ℕ → List Pair → ℕ × List Pair
entered_of graph from zero k s = (k, s)
entered_of graph from (suc n) k s = pick (not_new (enter_of s k (pair_at graph from k))) (k, s) (entered_of graph from n (k + 1) (table_after s k (pair_at graph from k)))

-- how many records stand from the queried pair's on; none where it is not held
abbrev pub counted_of : ℕ × List Pair → Two → Count
counted_of z p = record { pairs = z.0 - find_of z.1 z.0 p }
