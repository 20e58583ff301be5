use Rattle.ac_repr.proofs.Steps.{next-at, next-op}
use Rattle.ac_repr.proofs.Places.{end-small}
use Rattle.ac_repr.specs.Walk.{after_of}
use Rattle.image.specs.Loaded.{operations-many}
use Rattle.spec.specs.Image.{tables_of}
use native.Mathlib.Omega.{arith}
use Rattle.ac_repr.proofs.next.Goals as goal

pub overflow_add-after : goal.overflow_add-after
overflow_add-after c =
    record { fits = omega (arith, (end-small c.args.s.now c.args.im c.args.r c.requires.0 c.requires.1 c.requires.3), c.requires.4.2) }

pub in_op-requires : goal.in_op-requires
in_op-requires c =
    (c.requires.0, c.requires.1, c.requires.2, c.requires.3, rw (← (operations-many c.args.s.now c.args.im c.requires.0)) c.requires.4.0, omega (arith, (end-small c.args.s.now c.args.im c.args.l c.requires.0 c.requires.1 c.requires.2), c.requires.4.1))

pub from_op-requires : goal.from_op-requires
from_op-requires c = (c.requires.0, c.requires.1, c.requires.2, c.requires.3)

pub returns-in-Some : goal.returns-in-Some
returns-in-Some c =
    next-at (tables_of c.args.s.now) c.args.l c.args.r (after_of c.args.w) c.in-Some.v c.in_op.result c.requires.4.0 c.in-Some.is c.in_op.ensures

pub returns-in-None : goal.returns-in-None
returns-in-None c =
    next-op (tables_of c.args.s.now) c.args.l c.args.r (after_of c.args.w) c.in_op.result c.from_op.result c.in-None.is c.in_op.ensures c.from_op.ensures
