-- The graph while it grows: the pairs that the array holds, and what entering a list of pairs leaves.
use Rattle.std.specs.Prelude.{◌≡◌, List, [], ◌∷◌, ℕ, ◌+◌, ◌*◌, ◌≤◌, ◌<◌, length, Option, Some, None}
use Rattle.spec.specs.Bytes.{Limits, Two, Res, refused}
use Rattle.spec.specs.Graph.{enter_all}
use Rattle.spec.specs.Meaning.{In}
use Rattle.arrays.specs.Arrays.{pairs_in}
use Rattle.entering.specs.Entered.{entered, cleared, new_pair}

-- both classes are among w
abbrev pub Small : ℕ → Two → Type 0
Small w p = (p.0 < w) × (p.1 < w)

abbrev pub AllSmall : ℕ → List Two → Type 0
AllSmall w l = (p : Two) → In p l → Small w p

-- The array holds n pairs, and its index has each one's number.
pub record Laid (w n : ℕ) (graph : List ℕ) : Type 0 where
  pub wide : w ≤ 256
  pub few : n ≤ 4096
  pub room : w * w + n ≤ length graph
  pub small : AllSmall w (pairs_in w graph n)
  pub laid : graph ≡ entered w 0 (pairs_in w graph n) (cleared graph)

-- and it has room for as many pairs as may be entered
pub record Graph (lim : Limits) (w n : ℕ) (graph : List ℕ) : Type 0 where
  pub keys : Laid w n graph
  pub few : n ≤ lim.pairs
  pub most : lim.pairs ≤ 4096
  pub room : w * w + lim.pairs ≤ length graph

-- What is still to be entered leads to g.
pub record Going (lim : Limits) (w : ℕ) (g : Res (List Two)) (rest : List Two) (n : ℕ) (graph : List ℕ) : Type 0 where
  pub leads : enter_all lim (pairs_in w graph n) rest ≡ g
  pub holds : Graph lim w n graph
  pub small : AllSmall w rest

-- What entering leaves, by its answer: nothing more is to be entered; or a pair beyond the limit would be, and the array is open.
abbrev pub GrowsTo : Limits → ℕ → Res (List Two) → List ℕ → Option ℕ → Type 0
GrowsTo lim w g graph (Some n) = Going lim w g [] n graph
GrowsTo lim w g graph None = g ≡ refused 12

pub record Grows (lim : Limits) (w : ℕ) (g : Res (List Two)) (graph : List ℕ) (x : Option ℕ) : Type 0 where
  pub says : GrowsTo lim w g graph x

-- What entering one pair leaves: the array is fixed whatever the answer.
pub record Enters (lim : Limits) (w n : ℕ) (p : Two) (before after : List ℕ) (x : Option ℕ) : Type 0 where
  pub grows : Grows lim w (enter_all lim (pairs_in w before n) (p ∷ [])) after x
  pub graph : after ≡ new_pair lim w n p before
