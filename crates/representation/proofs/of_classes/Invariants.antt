-- the walk through the pairs of two classes: fewer are left at each turn
use Rattle.std.proofs.Common.{length}
use Rattle.spec.specs.Image.{tables_of}
use Rattle.ac_repr.specs.Walk.{walks, left_of, Within}
use Rattle.representation.proofs.of_classes.Given as goal

abbrev pub invariant-loop-x : goal.invariant-loop-x
invariant-loop-x g l = Within (tables_of l.s) l.l l.r l.x

abbrev pub decreases-loop-x : goal.decreases-loop-x
decreases-loop-x g l = length (left_of (walks (tables_of l.s) l.l l.r) l.x)
