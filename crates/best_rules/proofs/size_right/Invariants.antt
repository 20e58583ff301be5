use Rattle.best_rules.proofs.BestLaws.{child_size}
use Rattle.spec.specs.Image.{BEST-SIZE, children_of, size_over, tables_of, the_member}
use Rattle.spec.specs.Bytes.{sum as total}
use mathlib.Core.List.{map}
use Prim.Native.Nat.{◌≤◌, ◌+◌}
use mathlib.Core.Path.{◌≡◌}
use lib.ListN.{drop}
use Rattle.best_rules.proofs.size_right.Given as goal

abbrev pub invariant-loop-i : goal.invariant-loop-i
invariant-loop-i l = (l.i ≤ l.n) × (l.from + l.n ≤ l.im.children) × (l.sum ≤ BEST-SIZE) × (l.sum + total (map (child_size (tables_of l.s)) (drop l.i (children_of (tables_of l.s) (the_member (tables_of l.s) l.m)))) ≡ size_over (tables_of l.s) (children_of (tables_of l.s) (the_member (tables_of l.s) l.m)))
