use Rattle.class_literals.proofs.LiteralLaws.{doubled_after}
use Rattle.spec.specs.Image.{doubled_in, members_of, tables_of, the_class}
use Rattle.spec.specs.Bytes.{any}
use Prim.Native.Nat.{◌≤◌, ◌+◌}
use mathlib.Core.Path.{◌≡◌}
use lib.ListN.{drop}
use Rattle.class_literals.proofs.class_doubled.Given as goal

abbrev pub invariant-loop-i : goal.invariant-loop-i
invariant-loop-i l = (l.i ≤ l.n) × (l.from + l.n ≤ l.im.members) × (doubled_in (tables_of l.s) (the_class (tables_of l.s) l.c) (drop (l.c + 1) (tables_of l.s).classes) ≡ any (doubled_after (tables_of l.s) l.c) (drop l.i (members_of (tables_of l.s) l.c)))
