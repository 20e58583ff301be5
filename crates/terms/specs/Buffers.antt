-- The pool's buffers, and the pool that their numbers stand for.
-- terms: the chains' last terms, the count, then four numbers a term (where its runs begin, head and operation, value, the term before it in its chain), and where the last term's runs end.
-- runs: a run is one number, count * 16384 + child.
use Rattle.std.specs.Prelude.{List, [], ◌∷◌, ◌++◌, map, ℕ, zero, suc, ◌+◌, ◌*◌, ◌-◌, ◌/◌, ◌%◌, get_or}
use Rattle.spec.specs.Bytes.{Two}
use Rattle.spec.specs.Pool.{Pool, Node}

abbrev pub BUCKETS : ℕ
BUCKETS = 1024

-- where the chains' last terms stand, and where the count stands
abbrev pub BUCKET : ℕ
BUCKET = 0

abbrev pub COUNT : ℕ
COUNT = 1024

-- where the first term's four numbers stand
abbrev pub FIRSTS : ℕ
FIRSTS = 1025

abbrev pub HEADS : ℕ
HEADS = 1026

abbrev pub VALUES : ℕ
VALUES = 1027

abbrev pub CHAINS : ℕ
CHAINS = 1028

-- how many numbers no term needs, and how many a whole pool
abbrev pub LEAST : ℕ
LEAST = 1026

abbrev pub NUMBERS : ℕ
NUMBERS = 66562

abbrev pub first_in : List ℕ → ℕ → ℕ
first_in terms i = get_or terms (FIRSTS + i * 4) 0

abbrev pub head_in : List ℕ → ℕ → ℕ
head_in terms i = get_or terms (HEADS + i * 4) 0

abbrev pub value_in : List ℕ → ℕ → ℕ
value_in terms i = get_or terms (VALUES + i * 4) 0

-- a chain's terms by their number plus 1, 0 at its end
abbrev pub chain_in : List ℕ → ℕ → ℕ
chain_in terms i = get_or terms (CHAINS + i * 4) 0

abbrev pub bucket_in : List ℕ → ℕ → ℕ
bucket_in terms b = get_or terms (BUCKET + b) 0

abbrev pub count_in : List ℕ → ℕ
count_in terms = get_or terms COUNT 0

-- "runs of (child, count)"
abbrev pub unpack : ℕ → Two
unpack r = (r % 16384, r / 16384)

abbrev pub pack : Two → ℕ
pack r = r.1 * 16384 + r.0

-- n numbers from place a on
unfoldable pub part : List ℕ → ℕ → ℕ → List ℕ
part l a zero = []
part l a (suc n) = get_or l a 0 ∷ part l (suc a) n

-- a node by its numbers: the head's rank and the operation in one, the value, the runs
abbrev pub node_of : ℕ → ℕ → List ℕ → Node
node_of h v l = record { head = h / 64; op = h % 64; value = v; runs = map unpack l }

abbrev pub length_in : List ℕ → ℕ → ℕ
length_in terms i = first_in terms (i + 1) - first_in terms i

abbrev pub part_in : List ℕ → List ℕ → ℕ → List ℕ
part_in terms runs i = part runs (first_in terms i) (length_in terms i)

abbrev pub node_in : List ℕ → List ℕ → ℕ → Node
node_in terms runs i = node_of (head_in terms i) (value_in terms i) (part_in terms runs i)

unfoldable pub nodes_in : List ℕ → List ℕ → ℕ → Pool
unfolding part
nodes_in terms runs zero = []
nodes_in terms runs (suc n) = nodes_in terms runs n ++ (node_in terms runs n ∷ [])

abbrev pub pool_of : List ℕ → List ℕ → Pool
pool_of terms runs = nodes_in terms runs (count_in terms)
