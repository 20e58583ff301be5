use Prim.Native.Nat.{◌≤◌, ◌-◌, ◌+◌, ◌*◌}
use mathlib.Core.Path.{◌≡◌}
use Rattle.search_laws.specs.Edges.{against_column}
use Rattle.search.proofs.against_column.Given as goal

abbrev pub invariant-loop-i : goal.invariant-loop-i
invariant-loop-i l = (l.i ≤ l.n) × (l.at ≡ l.k + l.i * l.c) × (against_column l.costs l.flow l.c l.u l.d (l.n - l.i) l.at (l.v + l.i) l.net ≡ against_column l.costs l.flow l.c l.u l.d l.n l.k l.v l.initial.net)
