use Rattle.spec.specs.Bytes.{all}
use Rattle.spec.specs.Image.{members_in, rises, tables_of}
use mathlib.Core.List.{map}
use Prim.Native.Nat.{◌≤◌}
use mathlib.Core.Path.{◌≡◌}
use lib.ListN.{drop}
use Rattle.span_rules.proofs.classes_rise.Given as goal

abbrev pub invariant-loop-c : goal.invariant-loop-c
invariant-loop-c l = (l.c ≤ l.im.classes) × (all (λ x. rises (map (λ m. m.op) (members_in (tables_of l.s) x))) (tables_of l.s).classes ≡ all (λ x. rises (map (λ m. m.op) (members_in (tables_of l.s) x))) (drop l.c (tables_of l.s).classes))
