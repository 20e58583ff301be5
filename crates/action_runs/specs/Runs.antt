-- The terms of an action's pairs with their counts, as runs of (child, count): each run as one number.
use Rattle.std.specs.Prelude.{List, map, ℕ, ◌+◌, ◌*◌}
use Rattle.spec.specs.Bytes.{Two}
use Rattle.spec.specs.Round.{ones, plan_runs}

-- count * 16384 + child
abbrev pub packed : Two → ℕ
packed x = x.1 * 16384 + x.0

-- the pairs of a plan that have units
abbrev pub runs_over : (Two → ℕ) → List Two → List ℕ → List ℕ
runs_over of ps x = map packed (plan_runs of ps x)

-- the pairs of a structural action, each once
abbrev pub runs_of : (Two → ℕ) → List Two → List ℕ
runs_of of ps = runs_over of ps (ones ps)
