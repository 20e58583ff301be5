use Rattle.skipped_pairs.proofs.Scans.{in_row}
use Rattle.skipped_pairs.specs.Held.{facts_in}
use Rattle.spec.specs.Bytes.{sum_to}
use Prim.Native.Nat.{◌≤◌}
use mathlib.Core.Path.{◌≡◌}
use Rattle.skipped_pairs.proofs.count_row.Given as goal

abbrev pub invariant-loop-j : goal.invariant-loop-j
invariant-loop-j l = (l.j ≤ l.n) × (l.sum ≡ sum_to l.j (in_row l.id (facts_in l.f) (facts_in l.g) l.n l.i)) × (l.sum ≤ l.j)
