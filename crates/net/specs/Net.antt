-- A search's own numbers, and what each small function does to them, on plain lists in the code's shape.
-- The net: a number a node of labels' low words, high words, predecessors, states (0 unseen, 1 seen, 2 queued) and places of the queue's ring;
-- then the place of its first node, and how many nodes it holds.
use Rattle.std.specs.Prelude.{ℕ, zero, suc, ◌+◌, ◌-◌, ◌%◌, ◌^◌, Bool, true, List, ◌==◌, int_lt, slice_index, slice_set}
use Rattle.spec.specs.Bytes.{pick}
use Rattle.wide.specs.declared.Wide.{Wide}
use Rattle.wide.specs.Value.{val}

-- the source, 65 rows, 65 columns and the sink; and where each number stands
abbrev pub NODES : ℕ
NODES = 132

abbrev pub HIGH : ℕ
HIGH = 132

abbrev pub PRED : ℕ
PRED = 264

abbrev pub STATE : ℕ
STATE = 396

abbrev pub RING : ℕ
RING = 528

abbrev pub HEAD : ℕ
HEAD = 660

abbrev pub COUNT : ℕ
COUNT = 661

abbrev pub NET : ℕ
NET = 662

abbrev pub label_of : List ℕ → ℕ → Wide
label_of m v = record { lo = slice_index m v; hi = slice_index m (HIGH + v) }

abbrev pub pred_of : List ℕ → ℕ → ℕ
pred_of m v = slice_index m (PRED + v)

abbrev pub state_of : List ℕ → ℕ → ℕ
state_of m v = slice_index m (STATE + v)

abbrev pub head_of : List ℕ → ℕ
head_of m = slice_index m HEAD

abbrev pub count_of : List ℕ → ℕ
count_of m = slice_index m COUNT

-- node v joins the queue
unfoldable pub joined : List ℕ → ℕ → List ℕ
joined m v = slice_set (slice_set (slice_set m (RING + (head_of m + count_of m) % 2 ^ 64 % NODES) v) (STATE + v) 2) COUNT ((count_of m + 1) % 2 ^ 64)

-- node v has the label d from node u
abbrev pub labelled : List ℕ → ℕ → ℕ → Wide → List ℕ
labelled m u v d = slice_set (slice_set (slice_set m v d.lo) (HIGH + v) d.hi) (PRED + v) u

abbrev pub offered : List ℕ → ℕ → Wide → Bool
offered m v d = pick (state_of m v == 0) true (int_lt (val d) (val (label_of m v)))

-- and joins the queue unless it stands in it
unfoldable pub improved : List ℕ → ℕ → ℕ → Wide → List ℕ
unfolding joined
improved m u v d = pick (state_of (labelled m u v d) v == 2) (labelled m u v d) (joined (labelled m u v d) v)

-- "a strict improvement only"
unfoldable pub relaxed : List ℕ → ℕ → ℕ → Wide → List ℕ
unfolding improved
relaxed m u v d = pick (offered m v d) (improved m u v d) m

-- the first node leaves the queue
abbrev pub first_of : List ℕ → ℕ
first_of m = slice_index m (RING + head_of m)

unfoldable pub left : List ℕ → List ℕ
left m = slice_set (slice_set (slice_set m (STATE + first_of m) 1) HEAD ((head_of m + 1) % NODES)) COUNT (count_of m - 1)

-- the nodes up to t unseen, the ring empty, then the source labelled 0 and in the queue
unfoldable pub unseen_to : ℕ → ℕ → List ℕ → List ℕ
unseen_to zero v m = m
unseen_to (suc n) v m = unseen_to n (v + 1) (slice_set m (STATE + v) 0)

unfoldable pub begun : ℕ → List ℕ → List ℕ
unfolding unseen_to joined
begun t m = joined (labelled (slice_set (slice_set (unseen_to (t + 1) 0 m) HEAD 0) COUNT 0) 0 0 (record { lo = 0; hi = 0 })) 0
