use Rattle.spec.specs.Bytes.{all}
use Rattle.spec.specs.Image.{best_right, tables_of}
use Prim.Native.Nat.{◌≤◌}
use mathlib.Core.Path.{◌≡◌}
use lib.ListN.{drop}
use Rattle.best_rules.proofs.bests_right.Given as goal

abbrev pub invariant-loop-c : goal.invariant-loop-c
invariant-loop-c l = (l.c ≤ l.im.classes) × (all (best_right (tables_of l.s)) (tables_of l.s).classes ≡ all (best_right (tables_of l.s)) (drop l.c (tables_of l.s).classes))
