use Rattle.cost_matrix.specs.Cells.{problem_of}
use Rattle.cost_matrix.specs.Laying.{Laying}
use Prim.Native.Nat.{◌≤◌}
use mathlib.Core.Path.{◌≡◌}
use lib.ListN.{length}
use Rattle.slice_matrix.proofs.lay_cells.Given as goal

abbrev pub invariant-loop-k : goal.invariant-loop-k
invariant-loop-k l = (l.k ≤ length l.sizes) × Laying (problem_of l.supply l.demand l.sizes l.masses l.allowed) l.initial.costs l.k l.costs × (length l.costs ≡ length l.initial.costs)
