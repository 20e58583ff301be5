use Rattle.skipped_pairs.proofs.Scans.{from, equal}
use Rattle.skipped_pairs.specs.Held.{facts_in}
use Rattle.skips.specs.Facts.{kin_with}
use Prim.Native.Nat.{◌≤◌}
use mathlib.Core.Path.{◌≡◌}
use Rattle.skipped_pairs.proofs.kin_with.Given as goal

abbrev pub invariant-loop-a : goal.invariant-loop-a
invariant-loop-a l = (l.a ≤ l.n) × (from (equal (facts_in l.f) l.i l.x) l.n l.a ≡ kin_with (facts_in l.f) l.n l.i l.x)
