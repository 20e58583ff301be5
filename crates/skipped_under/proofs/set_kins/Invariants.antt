use Rattle.spec.specs.Image.{tables_of}
use Rattle.monomial.specs.Places.{monomial_at}
use Rattle.skipped_under.specs.Told.{KinsTold}
use Prim.Native.Nat.{◌≤◌}
use mathlib.Core.Path.{◌≡◌}
use lib.ListN.{length}
use Rattle.skipped_under.proofs.set_kins.Given as goal

abbrev pub invariant-loop-i : goal.invariant-loop-i
invariant-loop-i l = (l.i ≤ l.n) × (length l.f ≡ length l.initial.f) × KinsTold l.id (monomial_at (tables_of l.s) l.c) l.n l.i l.initial.f l.f
