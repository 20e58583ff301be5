use Rattle.spec.specs.Image.{operation_right, tables_of}
use Rattle.spec.specs.Bytes.{all}
use Prim.Native.Nat.{◌≤◌}
use mathlib.Core.Path.{◌≡◌}
use lib.ListN.{length, drop}
use Rattle.operation_rules.proofs.operations_right.Given as goal

abbrev pub invariant-loop-o : goal.invariant-loop-o
invariant-loop-o l = (l.o ≤ l.im.operations) × (all (operation_right (length (tables_of l.s).classes)) (tables_of l.s).operations ≡ all (operation_right (length (tables_of l.s).classes)) (drop l.o (tables_of l.s).operations))
