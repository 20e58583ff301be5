use Rattle.ac_repr.proofs.Steps.{Ahead}
use Rattle.spec.specs.Image.{tables_of}
use Prim.Native.Nat.{◌-◌}
use Rattle.ac_repr.proofs.from_op.Given as goal

abbrev pub invariant-loop-i : goal.invariant-loop-i
invariant-loop-i l = Ahead (tables_of l.s) l.l l.r l.o l.i

abbrev pub decreases-loop-i : goal.decreases-loop-i
decreases-loop-i l = l.im.operations - l.i
