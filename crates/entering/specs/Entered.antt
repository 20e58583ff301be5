-- Pairs in the array of the graph: the number of each in the index, and its key.
use Rattle.std.specs.Prelude.{List, [], ◌∷◌, ℕ, suc, ◌+◌, ◌*◌, ltb, length, set, replicate}
use Rattle.spec.specs.Bytes.{Limits, Two, any, pick, same_two}
use Rattle.arrays.specs.Arrays.{place_of, key_of, pairs_in}

-- pair k among w classes: its number in the index, and its key behind it
abbrev pub with_pair : ℕ → ℕ → Two → List ℕ → List ℕ
with_pair w k p graph = set (set graph (place_of w p) k) (w * w + k) (key_of p)

-- pairs from number k on
unfoldable pub entered : ℕ → ℕ → List Two → List ℕ → List ℕ
entered w k [] graph = graph
entered w k (p ∷ ps) graph = entered w (suc k) ps (with_pair w k p graph)

abbrev pub cleared : List ℕ → List ℕ
cleared list = replicate (length list) 0

-- the pair p after the n pairs that are there: nothing changes where it is one of them or there is no room
abbrev pub new_pair : Limits → ℕ → ℕ → Two → List ℕ → List ℕ
new_pair lim w n p graph = pick (any (same_two p) (pairs_in w graph n)) graph (pick (ltb n lim.pairs) (with_pair w n p graph) graph)
