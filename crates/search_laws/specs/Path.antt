-- The path found by a search: what is left along it, and the units sent; on plain lists in the code's shape.
use Rattle.std.specs.Prelude.{◌≡◌, List, [], ◌∷◌, ℕ, ◌+◌, ◌-◌, ◌*◌, ◌≤◌, ◌<◌, min, leb, eqb, get_or, set}
use Rattle.spec.specs.Bytes.{pick, Two}
use Rattle.spec.specs.Transport.{WIDEST}
use Rattle.cost_matrix.specs.Matrix.{cap_of}

-- a step of a path for r rows and c columns: from the source to a row, from a row to a column, from a column to a row or to the sink
pub record Step (r c u v : ℕ) : Type 0 where
  pub from_source : u ≡ 0 → (1 ≤ v) × (v ≤ r)
  pub from_row : 1 ≤ u → u ≤ r → (r < v) × (v ≤ r + c)
  pub from_column : r < u → u ≤ r + c
  pub to_row : r < u → (v ≡ 1 + r + c → ⊥) → (1 ≤ v) × (v ≤ r)

pub data Steps (r c : ℕ) : List Two → Type 0 where
  no_step : Steps r c []
  and_step : {s : Two} {l : List Two} → Step r c s.0 s.1 → Steps r c l → Steps r c (s ∷ l)

-- what is left on a step: y holds the margins, g the costs and capacities, f the plan
unfoldable pub left_on : List ℕ → List ℕ → List ℕ → ℕ → ℕ → ℕ → ℕ → ℕ
left_on g f y r c u v =
    pick (eqb u 0) (get_or y (v - 1) 0)
    (pick (leb u r) (cap_of g ((u - 1) * c + (v - 1 - r)) - get_or f ((u - 1) * c + (v - 1 - r)) 0)
    (pick (eqb v (1 + r + c)) (get_or y (WIDEST + (u - 1 - r)) 0) (get_or f ((v - 1) * c + (u - 1 - r)) 0)))

unfoldable pub least_on : List ℕ → List ℕ → List ℕ → ℕ → ℕ → ℕ → List Two → ℕ
unfolding left_on
least_on g f y r c b [] = b
least_on g f y r c b (s ∷ l) = least_on g f y r c (min b (left_on g f y r c s.0 s.1)) l

-- δ units along a step, and along all of them
unfoldable pub sent_on : ℕ → ℕ → ℕ → ℕ → ℕ → List ℕ → List ℕ
sent_on r c δ u v f =
    pick (eqb u 0) f
    (pick (leb u r) (set f ((u - 1) * c + (v - 1 - r)) (get_or f ((u - 1) * c + (v - 1 - r)) 0 + δ))
    (pick (eqb v (1 + r + c)) f (set f ((v - 1) * c + (u - 1 - r)) (get_or f ((v - 1) * c + (u - 1 - r)) 0 - δ))))

unfoldable pub sent : ℕ → ℕ → ℕ → List Two → List ℕ → List ℕ
unfolding sent_on
sent r c δ [] f = f
sent r c δ (s ∷ l) f = sent r c δ l (sent_on r c δ s.0 s.1 f)
