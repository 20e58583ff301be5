use Rattle.ac_ops.specs.AcOps.{of_op}
use Rattle.spec.specs.Bytes.{any}
use lib.Seq.{slice}
use Rattle.spec.specs.Image.{tables_of, members_of}
use Prim.Native.Nat.{◌≤◌}
use mathlib.Core.Path.{◌≡◌}
use Rattle.ac_ops.proofs.has_op.Given as goal

abbrev pub invariant-loop-i : goal.invariant-loop-i
invariant-loop-i l = (l.i ≤ l.i-end) × (any (of_op l.op) (slice l.i l.i-end (tables_of l.s).members) ≡ any (of_op l.op) (members_of (tables_of l.s) l.c))
