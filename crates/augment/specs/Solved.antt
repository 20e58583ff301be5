-- What the solver leaves in the plan's buffer.
use Rattle.std.specs.Prelude.{◌≡◌, Bool, true, false, List, ℕ, ◌*◌, ◌<◌, get_or, take, replicate}
use Rattle.std.proofs.Math.Option.{Option, none, some}
use Rattle.spec.specs.Transport.{Problem, rows_of, cols_of, solve_cells}
use Rattle.laws.specs.Buffers.{over}

abbrev pub is_plan : Option (List ℕ) → Bool
is_plan none = false
is_plan (some x) = true

-- b says whether the problem has a plan, and the first numbers of f are it
pub record PlanIn (p : Problem) (b : Bool) (f : List ℕ) : Type 0 where
  pub is : b ≡ is_plan (solve_cells p)
  pub plan : (x : List ℕ) → solve_cells p ≡ some x → take (rows_of p * cols_of p) f ≡ x

-- the first n numbers are 0
abbrev pub Emptied : List ℕ → ℕ → Type 0
Emptied f n = (k : ℕ) → k < n → get_or f k 0 ≡ 0

-- the plan, or n zeros where there is none
abbrev pub plan_or0 : ℕ → Option (List ℕ) → List ℕ
plan_or0 n none = replicate n 0
plan_or0 n (some x) = x

-- the plan's buffer afterwards: it begins with the plan, or with rows × columns zeros where there is none
unfoldable pub flow_after : Problem → List ℕ → List ℕ
unfolding solve_cells
flow_after p flow = over (plan_or0 (rows_of p * cols_of p) (solve_cells p)) flow

-- the solver's answer for the problem p, and the plan's buffer
pub record Solves (p : Problem) (flow₀ flow' : List ℕ) (b : Bool) : Type 0 where
  pub is : b ≡ is_plan (solve_cells p)
  pub flow : flow' ≡ flow_after p flow₀
