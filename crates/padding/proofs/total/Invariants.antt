use Rattle.spec.specs.Monomial.{total}
use Rattle.monomial_terms.specs.Terms.{held}
use Prim.Native.Nat.{◌≤◌, ◌+◌}
use mathlib.Core.Path.{◌≡◌}
use lib.ListN.{drop}
use Rattle.padding.proofs.total.Given as goal

abbrev pub invariant-loop-i : goal.invariant-loop-i
invariant-loop-i l = (l.i ≤ l.n) × (l.sum + total (drop l.i (held l.n l.mono)) ≡ total (held l.n l.mono))
