-- The walk back from the sink by predecessors: the path's steps, in the code's shape.
-- The path: up to 132 nodes at the end of a list of 132, the sink last.
use Rattle.std.specs.Prelude.{◌≡◌, refl, List, [], ◌∷◌, ℕ, zero, suc, ◌+◌, ◌-◌, ◌≤◌, ◌<◌, eqb, get_or, set}
use Rattle.std.proofs.Common.{arith}
use Rattle.spec.specs.Bytes.{pick, Two}
use Rattle.net.specs.Net.{pred_of, NODES}

-- the sink's place
abbrev pub LAST : ℕ
LAST = 131

-- n steps (from, to) from place a on
unfoldable pub steps_from : List ℕ → ℕ → ℕ → List Two
steps_from path zero a = []
steps_from path (suc n) a = (get_or path a 0, get_or path (a + 1) 0) ∷ steps_from path n (a + 1)

-- the walk back from v by predecessors, in front of the steps that are there
unfoldable pub walk_net : List ℕ → ℕ → ℕ → List Two → List Two
walk_net m zero v steps = steps
walk_net m (suc n) v steps = pick (eqb v 0) steps (walk_net m n (pred_of m v) ((pred_of m v, v) ∷ steps))

-- the path's list after the walk back from v, whose node stands at place n; and the place of the first node
unfoldable pub walked_path : List ℕ → ℕ → ℕ → List ℕ → List ℕ
walked_path m zero v path = path
walked_path m (suc n) v path = pick (eqb v 0) path (walked_path m n (pred_of m v) (set path n (pred_of m v)))

unfoldable pub walked_at : List ℕ → ℕ → ℕ → ℕ
walked_at m zero v = 0
walked_at m (suc n) v = pick (eqb v 0) (suc n) (walked_at m n (pred_of m v))

-- from v the predecessors lead to the source in at most n steps
pub data Leads (m : List ℕ) : ℕ → ℕ → Type 0 where
  arrived : {n v : ℕ} → v ≡ 0 → Leads m n v
  onward : {n v : ℕ} → (v ≡ 0 → ⊥) → v < NODES → Leads m n (pred_of m v) → Leads m (suc n) v

-- the steps from place a on
abbrev pub here : List ℕ → ℕ → List Two
here path a = steps_from path (LAST - a) a

pub here-turn : (path : List ℕ) (a : ℕ) → a < LAST → here path a ≡ (get_or path a 0, get_or path (a + 1) 0) ∷ here path (a + 1)
unfolding steps_from
here-turn path a h = let e : LAST - a ≡ suc (LAST - (a + 1)) = omega arith in rw e refl

pub here_end : (path : List ℕ) (a : ℕ) → LAST ≤ a → here path a ≡ []
unfolding steps_from
here_end path a h = let e : LAST - a ≡ 0 = omega arith in rw e refl
