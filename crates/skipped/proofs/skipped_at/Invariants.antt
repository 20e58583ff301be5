use Rattle.skipped.proofs.Sums.{Upto}
use Rattle.spec.specs.Image.{tables_of}
use Prim.Native.Nat.{◌-◌}
use Rattle.skipped.proofs.skipped_at.Given as goal

abbrev pub invariant-loop-o : goal.invariant-loop-o
invariant-loop-o l = Upto (tables_of l.s) l.l l.r l.im.operations l.sum l.o

abbrev pub decreases-loop-o : goal.decreases-loop-o
decreases-loop-o l = l.im.operations - l.o
