use Prim.Native.Nat.{◌≤◌, ◌-◌}
use Rattle.spec.specs.Monomial.{counts}
use Rattle.monomial_terms.specs.Terms.{held}
use Rattle.laws.specs.Buffers.{Filled}
use Rattle.laying.proofs.lay_margin.Given as goal

abbrev pub invariant-loop-i : goal.invariant-loop-i
invariant-loop-i l = (l.i ≤ l.n) × Filled (counts (held l.n l.mono)) l.initial.margin l.i l.margin
