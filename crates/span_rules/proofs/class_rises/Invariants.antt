use Rattle.spec.specs.Image.{members_in, rises, tables_of, the_class}
use mathlib.Core.List.{map}
use Prim.Native.Nat.{◌≤◌, ◌+◌}
use mathlib.Core.Path.{◌≡◌}
use mathlib.Core.List.{◌∷◌}
use lib.ListN.{drop}
use Rattle.span_rules.proofs.class_rises.Given as goal

abbrev pub invariant-loop-i : goal.invariant-loop-i
invariant-loop-i l = (l.i ≤ l.n) × (l.from + l.n ≤ l.im.members) × (rises (map (λ m. m.op) (members_in (tables_of l.s) (the_class (tables_of l.s) l.c))) ≡ rises (l.last ∷ drop l.i (map (λ m. m.op) (members_in (tables_of l.s) (the_class (tables_of l.s) l.c)))))
