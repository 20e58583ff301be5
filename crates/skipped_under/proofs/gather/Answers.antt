use Rattle.skipped_under.proofs.Places.{walk_start, place_is, walk-rises, walk_more, walk_end, span-few, told_none, told_more}
use Rattle.skipped_under.specs.Told.{places_of}
use Rattle.spec.specs.Image.{tables_of}
use Rattle.monomial.specs.Places.{monomial_at}
use Rattle.ac_ops.specs.AcOps.{span-members, span-end, span-from}
use Rattle.ac_repr.specs.Walk.{has_place}
use native.Mathlib.Omega.{arith}
use mathlib.Core.Path.{refl, ◌∙◌}
use Rattle.skipped_under.proofs.gather.Goals as goal

pub next_place-x-requires : goal.next_place-x-requires
next_place-x-requires c =
    (c.requires.0, span-members c.args.s.now c.args.im c.args.c c.members_of-span.result c.requires.0 c.requires.1 c.requires.2 c.members_of-span.ensures.0, c.requires.3, c.members_of-span.ensures.1)

pub loop-x-init : goal.loop-x-init
loop-x-init c = (
  refl,
  walk_start (tables_of c.args.s.now) c.args.c c.args.o c.next_place-x.result c.members_of-span.result.from c.members_of-span.result.to (span-from c.args.s.now c.args.im c.args.c c.members_of-span.result c.requires.0 c.requires.1 c.requires.2 c.members_of-span.ensures.0) (span-end c.args.s.now c.args.im c.args.c c.members_of-span.result c.requires.0 c.requires.1 c.requires.2 c.members_of-span.ensures.0) c.next_place-x.ensures,
  told_none c.args.id (monomial_at (tables_of c.args.s.now) c.args.c) (places_of (tables_of c.args.s.now) c.args.c c.args.o) c.args.f.now,
)

pub gather_place-requires : goal.gather_place-requires
gather_place-requires c =
    (c.requires.0, c.requires.1, c.requires.2, omega (arith, c.requires, c.loop-x.invariant.0, c.loop-x.invariant.1.low, span-few c.args.s.now c.args.im c.args.c c.members_of-span.result c.requires.0 c.requires.1 c.requires.2 c.members_of-span.ensures.0))

pub overflow_add-n : goal.overflow_add-n
overflow_add-n c =
    record { fits = omega (arith, c.loop-x.invariant.1.low, span-few c.args.s.now c.args.im c.args.c c.members_of-span.result c.requires.0 c.requires.1 c.requires.2 c.members_of-span.ensures.0) }

pub next_place-x-requires-in-loop-x : goal.next_place-x-requires-in-loop-x
next_place-x-requires-in-loop-x c =
    (c.requires.0, span-members c.args.s.now c.args.im c.args.c c.members_of-span.result c.requires.0 c.requires.1 c.requires.2 c.members_of-span.ensures.0, c.requires.3, c.members_of-span.ensures.1)

pub loop-x-smaller : goal.loop-x-smaller
loop-x-smaller c =
    omega (arith, c.loop-x-test.true, walk-rises (has_place (tables_of c.args.s.now) c.members_of-span.result.to c.args.o) (places_of (tables_of c.args.s.now) c.args.c c.args.o) c.members_of-span.result.to c.loop-x.n c.loop-x.x c.loop-x.invariant.1 c.loop-x-test.true c.next_place-x-in-loop-x.result c.next_place-x-in-loop-x.ensures)

pub loop-x-preserved : goal.loop-x-preserved
loop-x-preserved c = (
  c.gather_place.auto.f ∙ c.loop-x.invariant.0,
  walk_more (has_place (tables_of c.args.s.now) c.members_of-span.result.to c.args.o) (places_of (tables_of c.args.s.now) c.args.c c.args.o) c.members_of-span.result.to c.loop-x.n c.loop-x.x c.loop-x.invariant.1 c.loop-x-test.true c.next_place-x-in-loop-x.result c.next_place-x-in-loop-x.ensures,
  told_more c.args.id (monomial_at (tables_of c.args.s.now) c.args.c) (places_of (tables_of c.args.s.now) c.args.c c.args.o) c.loop-x.n c.loop-x.x c.loop-x.f c.gather_place.new.f (omega (arith, c.requires, c.loop-x.invariant.0, c.loop-x.invariant.1.low, c.loop-x-test.true, span-few c.args.s.now c.args.im c.args.c c.members_of-span.result c.requires.0 c.requires.1 c.requires.2 c.members_of-span.ensures.0)) (place_is (has_place (tables_of c.args.s.now) c.members_of-span.result.to c.args.o) (places_of (tables_of c.args.s.now) c.args.c c.args.o) c.members_of-span.result.to c.loop-x.n c.loop-x.x c.loop-x.invariant.1 c.loop-x-test.true) c.gather_place.ensures.0 c.gather_place.ensures.1 c.loop-x.invariant.2,
)

pub shape_of-f : goal.shape_of-f
shape_of-f c = c.loop-x.invariant.0

pub returns : goal.returns
returns c = (
  walk_end (has_place (tables_of c.args.s.now) c.members_of-span.result.to c.args.o) (places_of (tables_of c.args.s.now) c.args.c c.args.o) c.members_of-span.result.to c.loop-x.n c.loop-x.x c.loop-x.invariant.1 c.loop-x-test.false,
  omega (arith, c.loop-x.invariant.1.low, c.loop-x.invariant.1.high, span-few c.args.s.now c.args.im c.args.c c.members_of-span.result c.requires.0 c.requires.1 c.requires.2 c.members_of-span.ensures.0),
  c.loop-x.invariant.2,
)
