use Prim.Native.Nat.{◌≤◌, ◌-◌, ◌+◌}
use mathlib.Core.Path.{◌≡◌}
use Rattle.search_laws.specs.Edges.{spread_to}
use Rattle.search.proofs.spread.Given as goal

abbrev pub invariant-loop-i : goal.invariant-loop-i
invariant-loop-i l = (l.i ≤ l.n) × (spread_to l.left l.u l.d (l.n - l.i) (l.k + l.i) (l.v + l.i) l.net ≡ spread_to l.left l.u l.d l.n l.k l.v l.initial.net)
