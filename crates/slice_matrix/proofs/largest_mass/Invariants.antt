use Rattle.cost_matrix.specs.Cells.{problem_of}
use Rattle.cost_matrix.specs.Laying.{LargestTo}
use Prim.Native.Nat.{ℕ, ◌≤◌}
use mathlib.Core.Path.{◌≡◌}
use mathlib.Core.List.{List}
use lib.ListN.{length}
use Rattle.slice_matrix.proofs.largest_mass.Given as goal

abbrev pub invariant-loop-i : goal.invariant-loop-i
invariant-loop-i l = (l.i ≤ length l.masses) × ((supply demand sizes : List ℕ) → length sizes ≡ length l.masses → LargestTo (problem_of supply demand sizes l.masses l.allowed) l.i l.v)
