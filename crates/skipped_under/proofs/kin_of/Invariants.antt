use Rattle.laws.specs.Firsts.{first_from}
use Rattle.spec.specs.Bytes.{same_twos}
use Rattle.skips.specs.Facts.{filled}
use Rattle.skipped_pairs.specs.Held.{place_in}
use Rattle.spec.specs.Image.{tables_of}
use Rattle.monomial.specs.Places.{monomial_at}
use Rattle.skipped_under.specs.Told.{first_kin}
use Prim.Native.Nat.{◌≤◌}
use mathlib.Core.Path.{◌≡◌}
use Rattle.skipped_under.proofs.kin_of.Given as goal

abbrev pub invariant-loop-k : goal.invariant-loop-k
invariant-loop-k l = (l.k ≤ l.i) × (first_from (λ j. same_twos (filled l.id (monomial_at (tables_of l.s) l.c (place_in l.f l.i))) (filled l.id (monomial_at (tables_of l.s) l.c (place_in l.f j)))) l.k l.i ≡ first_kin l.id (monomial_at (tables_of l.s) l.c) l.f l.i)
