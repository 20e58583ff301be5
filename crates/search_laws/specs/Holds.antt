-- What the solver's own numbers stand for: the search, the costs, the plan so far and what is left at the margins.
use Rattle.std.specs.Prelude.{◌≡◌, Bool, false, List, [], ◌∷◌, ℕ, zero, suc, ◌+◌, ◌-◌, ◌*◌, ◌%◌, ◌<◌, eqb, pos, length, get_or}
use Rattle.std.proofs.Math.Option.{none, some}
use Rattle.spec.specs.Meaning.{occurs}
use Rattle.spec.specs.Transport.{Problem, Search, weight, rows_of, cols_of, node_count, sink, supply_at, demand_at, row_flow, col_flow, searched, found, WIDEST}
use Rattle.wide.specs.Wrap.{Natural}
use Rattle.flow.specs.Cut.{bit}
use Rattle.flow.specs.Search.{label_at, pred_at}
use Rattle.flow.specs.Augmentation.{Partial}
use Rattle.flow.specs.Magnitude.{Small}
use Rattle.net.specs.Net.{label_of, pred_of, state_of, head_of, count_of, NODES, RING, NET}
use Rattle.cost_matrix.specs.Matrix.{CostsHold}
use Rattle.search_laws.specs.Edges.{TAKEN}

-- n nodes of the ring from place h on
unfoldable pub ring_from : List ℕ → ℕ → ℕ → List ℕ
ring_from m zero h = []
ring_from m (suc n) h = get_or m (RING + h % NODES) 0 ∷ ring_from m n (h + 1)

-- the net m holds the search s
pub record NetHolds (p : Problem) (s : Search) (m : List ℕ) : Type 0 where
  pub size : length m ≡ NET
  pub unseen : (v : ℕ) → v < node_count p → state_of m v ≡ 0 → label_at s v ≡ none
  pub seen : (v : ℕ) → v < node_count p → (state_of m v ≡ 0 → ⊥) → (k : ℕ) × (label_at s v ≡ some (pos k)) × Natural (label_of m v) k
  pub pred : (v : ℕ) → v < node_count p → (state_of m v ≡ 0 → ⊥) → pred_of m v ≡ pred_at s v
  pub flags : (v : ℕ) → v < node_count p → eqb (state_of m v) 2 ≡ get_or s.queued v false
  pub head : head_of m < NODES
  pub ring : ring_from m (count_of m) (head_of m) ≡ s.queue
  -- each node stands in the queue at most once: where its flag is set
  pub once : (v : ℕ) → occurs v s.queue ≡ bit (get_or s.queued v false)

-- f holds the plan x
abbrev pub FlowHolds : Problem → List ℕ → List ℕ → Type 0
FlowHolds p x f = (k : ℕ) → k < rows_of p * cols_of p → get_or f k 0 ≡ get_or x k 0

-- y holds what is left of supplies and demands, and what the columns have
pub record MarginsHold (p : Problem) (x y : List ℕ) : Type 0 where
  pub supplies : (i : ℕ) → i < rows_of p → get_or y i 0 ≡ supply_at p i - row_flow p x i
  pub demands : (j : ℕ) → j < cols_of p → get_or y (WIDEST + j) 0 ≡ demand_at p j - col_flow p x j
  pub taken : (j : ℕ) → j < cols_of p → get_or y (TAKEN + j) 0 ≡ col_flow p x j

-- a problem of r rows and c columns, and a plan so far, all in place for a search
pub record Ready (r c : ℕ) (g f y : List ℕ) : Type 0 where
  pub p : Problem
  pub x : List ℕ
  pub rows : rows_of p ≡ r
  pub cols : cols_of p ≡ c
  pub small : Small p
  pub partly : Partial p (weight p) x
  pub costs : CostsHold p g
  pub flow : FlowHolds p x f
  pub margins : MarginsHold p x y

-- the net after a search, and whether it reached the sink
pub record Found {r c : ℕ} {g f y : List ℕ} (R : Ready r c g f y) (m : List ℕ) (reached : Bool) : Type 0 where
  pub net : NetHolds R.p (searched R.p (weight R.p) R.x) m
  pub is : reached ≡ found (label_at (searched R.p (weight R.p) R.x) (sink R.p))
