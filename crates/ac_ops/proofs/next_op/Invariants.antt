use Rattle.laws.specs.Firsts.{first_from}
use Rattle.ac_ops.specs.AcOps.{ac_op}
use Rattle.spec.specs.Image.{tables_of}
use mathlib.Core.Path.{◌≡◌}
use Rattle.ac_ops.proofs.next_op.Given as goal

abbrev pub invariant-loop-i : goal.invariant-loop-i
invariant-loop-i l = first_from (ac_op (tables_of l.s) l.l l.r) l.i l.im.operations ≡ first_from (ac_op (tables_of l.s) l.l l.r) l.o l.im.operations
