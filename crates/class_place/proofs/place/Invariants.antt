use Rattle.monomial_terms.specs.Terms.{held, position}
use Prim.Native.Nat.{◌≤◌, ◌+◌}
use mathlib.Core.Path.{◌≡◌}
use lib.ListN.{drop}
use Rattle.class_place.proofs.place.Given as goal

abbrev pub invariant-loop-i : goal.invariant-loop-i
invariant-loop-i l = (l.i ≤ l.n) × (position l.c (held l.n l.mono) ≡ l.i + position l.c (drop l.i (held l.n l.mono)))
