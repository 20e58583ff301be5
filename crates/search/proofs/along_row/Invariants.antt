use Prim.Native.Nat.{◌≤◌, ◌-◌, ◌+◌}
use mathlib.Core.Path.{◌≡◌}
use Rattle.search_laws.specs.Edges.{along_row}
use Rattle.search.proofs.along_row.Given as goal

abbrev pub invariant-loop-i : goal.invariant-loop-i
invariant-loop-i l = (l.i ≤ l.n) × (along_row l.costs l.flow l.u l.d (l.n - l.i) (l.k + l.i) (l.v + l.i) l.net ≡ along_row l.costs l.flow l.u l.d l.n l.k l.v l.initial.net)
