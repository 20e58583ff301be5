use Rattle.terms.specs.Buffers.{part, pool_of}
use Rattle.action_term.specs.Sorting.{within, sort_numbers}
use Prim.Native.Nat.{◌≤◌, ◌-◌}
use mathlib.Core.Path.{◌≡◌}
use lib.ListN.{length}
use Rattle.action_term.proofs.sort.Given as goal

abbrev pub invariant-loop-i : goal.invariant-loop-i
invariant-loop-i l = (l.i ≤ l.n) × (length l.list ≡ length l.initial.list) × (l.list ≡ within l.initial.list l.i l.n (sort_numbers (pool_of l.terms l.runs) (part l.initial.list l.i (l.n - l.i))))
