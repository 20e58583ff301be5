use Rattle.skipped.proofs.Sums.{Counted}
use Rattle.spec.specs.Image.{tables_of}
use Prim.Native.Nat.{◌≤◌, ◌*◌}
use Rattle.skipped.proofs.is_large.Given as goal

abbrev pub invariant-loop-k : goal.invariant-loop-k
invariant-loop-k l = (l.k ≤ l.im.children) × Counted (tables_of l.s) l.sum l.k × (l.sum ≤ l.k * 4294967295)
