use Rattle.skipped_pairs.proofs.Scans.{from, most}
use Rattle.skipped_pairs.specs.Held.{facts_in}
use Rattle.skips.specs.Facts.{kin_within}
use Prim.Native.Nat.{◌≤◌}
use mathlib.Core.Path.{◌≡◌}
use Rattle.skipped_pairs.proofs.kin_within.Given as goal

abbrev pub invariant-loop-a : goal.invariant-loop-a
invariant-loop-a l = (l.a ≤ l.n) × (from (most (facts_in l.f) l.i l.x) l.n l.a ≡ kin_within (facts_in l.f) l.n l.i l.x)
