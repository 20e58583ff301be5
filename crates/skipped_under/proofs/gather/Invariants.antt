use Rattle.skipped_under.proofs.Places.{Walked}
use Rattle.skipped_under.specs.Told.{places_of, Told}
use Rattle.spec.specs.Image.{tables_of}
use Rattle.monomial.specs.Places.{monomial_at}
use Rattle.ac_repr.specs.Walk.{has_place}
use Prim.Native.Nat.{suc, ◌-◌}
use mathlib.Core.Path.{◌≡◌}
use lib.ListN.{length}
use Rattle.skipped_under.proofs.gather.Given as goal

abbrev pub invariant-loop-x : goal.invariant-loop-x
invariant-loop-x l = (length l.f ≡ length l.initial.f) × Walked (has_place (tables_of l.s) l.span.to l.o) (places_of (tables_of l.s) l.c l.o) l.span.to l.n l.x × Told l.id (monomial_at (tables_of l.s) l.c) (places_of (tables_of l.s) l.c l.o) l.n 0 l.f

abbrev pub decreases-loop-x : goal.decreases-loop-x
decreases-loop-x l = suc l.span.to - l.x
