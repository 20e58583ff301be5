use Rattle.skipped_pairs.proofs.Scans.{in_rows}
use Rattle.skipped_pairs.specs.Held.{facts_in}
use Rattle.spec.specs.Bytes.{sum_to}
use Prim.Native.Nat.{◌≤◌, ◌*◌}
use mathlib.Core.Path.{◌≡◌}
use Rattle.skipped_pairs.proofs.count_pairs.Given as goal

abbrev pub invariant-loop-i : goal.invariant-loop-i
invariant-loop-i l = (l.i ≤ l.m) × (l.sum ≡ sum_to l.i (in_rows l.id (facts_in l.f) (facts_in l.g) l.n)) × (l.sum ≤ l.i * 1025)
