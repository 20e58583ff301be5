use Prim.Native.Nat.{◌≤◌}
use Rattle.search_laws.specs.Walk.{here, LAST}
use Rattle.search_laws.specs.Path.{Steps, least_on}
use mathlib.Core.Path.{◌≡◌}
use Rattle.augmenting_path.proofs.bottleneck.Given as goal

abbrev pub invariant-loop-a : goal.invariant-loop-a
invariant-loop-a l = (l.a ≤ LAST) × Steps l.r l.c (here l.path l.a) × (least_on l.costs l.flow l.left l.r l.c l.b (here l.path l.a) ≡ least_on l.costs l.flow l.left l.r l.c l.most (here l.path l.from))
