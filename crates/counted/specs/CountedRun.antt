-- 13 only where document 01's terms are beyond the limits: every term that a run enters is a best term, a starting term, or the final term of a pair improved in a round.
use Rattle.std.specs.Prelude.{length}
use mathlib.Core.List.{List}
use Prim.Native.Nat.{ℕ, ◌≤◌, max}
use Rattle.spec.specs.Bytes.{Two}
use Rattle.spec.specs.Image.{Tables}
use Rattle.spec.specs.Meaning.{Term}
use Rattle.counted.specs.Counted.{tree_runs, Counted}

-- a counted term, with at most 64 runs or as many as there are pairs
abbrev pub Slim : Tables → List Two → ℕ → Term → Type 0
Slim t ps b x = Counted t ps b x × (tree_runs x ≤ max 64 (length ps))
