-- What the sending of units starts from and leaves: the plan so far, one path sent, and the definition's answer.
use Rattle.std.specs.Prelude.{◌≡◌, Bool, true, false, List, ℕ, pos}
use Rattle.std.proofs.Math.Option.{none, some}
use Rattle.spec.specs.Bytes.{sum}
use Rattle.spec.specs.Transport.{Problem, weight, rows_of, cols_of, sink, searched, push, augment}
use Rattle.flow.specs.Search.{label_at}
use Rattle.flow.specs.Augmentation.{Partial}
use Rattle.flow.specs.Magnitude.{Small}
use Rattle.flow.specs.Solver.{path_of, least_left, empty}
use Rattle.search_laws.specs.Holds.{FlowHolds}
use Rattle.cost_matrix.specs.Matrix.{CostsHold}

-- a problem of r rows and c columns, and a plan so far
pub record Midway (r c : ℕ) (supply demand g f : List ℕ) : Type 0 where
  pub p : Problem
  pub x : List ℕ
  pub supply_is : p.supply ≡ supply
  pub demand_is : p.demand ≡ demand
  pub rows : rows_of p ≡ r
  pub cols : cols_of p ≡ c
  pub small : Small p
  pub partly : Partial p (weight p) x
  pub costs : CostsHold p g
  pub flow : FlowHolds p x f

-- n units were sent along the path that the search found, or it did not reach the sink
pub data Sent {r c : ℕ} {supply demand g f : List ℕ} (M : Midway r c supply demand g f) (rest n : ℕ) (f' : List ℕ) : Type 0 where
  stuck : n ≡ 0 → label_at (searched M.p (weight M.p) M.x) (sink M.p) ≡ none → Sent M rest n f'
  along : (k : ℕ) → label_at (searched M.p (weight M.p) M.x) (sink M.p) ≡ some (pos k) → n ≡ least_left M.p (weight M.p) rest M.x
      → FlowHolds M.p (push M.p n (path_of M.p (weight M.p) M.x) M.x) f' → Sent M rest n f'

-- a problem of r rows and c columns, its costs in place, and the empty plan
pub record Start (r c : ℕ) (supply demand g f : List ℕ) : Type 0 where
  pub p : Problem
  pub supply_is : p.supply ≡ supply
  pub demand_is : p.demand ≡ demand
  pub rows : rows_of p ≡ r
  pub cols : cols_of p ≡ c
  pub small : Small p
  pub costs : CostsHold p g
  pub flow : FlowHolds p (empty p (weight p)) f

-- the definition's answer: whether all units were sent, and the plan
pub data Answered {r c : ℕ} {supply demand g f : List ℕ} (S : Start r c supply demand g f) (b : Bool) (f' : List ℕ) : Type 0 where
  no_plan : augment (sum S.p.supply) S.p (weight S.p) (sum S.p.supply) (empty S.p (weight S.p)) ≡ none → b ≡ false → Answered S b f'
  plan : (x : List ℕ) → augment (sum S.p.supply) S.p (weight S.p) (sum S.p.supply) (empty S.p (weight S.p)) ≡ some x → b ≡ true → Partial S.p (weight S.p) x → FlowHolds S.p x f' → Answered S b f'
