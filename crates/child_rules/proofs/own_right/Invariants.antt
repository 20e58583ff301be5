use Rattle.spec.specs.Image.{child_right, children_of, tables_of, the_member}
use Rattle.spec.specs.Bytes.{all}
use Prim.Native.Nat.{◌≤◌, ◌+◌}
use mathlib.Core.Path.{◌≡◌}
use lib.ListN.{drop}
use Rattle.child_rules.proofs.own_right.Given as goal

abbrev pub invariant-loop-i : goal.invariant-loop-i
invariant-loop-i l = (l.i ≤ l.n) × (l.from + l.n ≤ l.im.children) × (all (child_right (tables_of l.s) l.k) (children_of (tables_of l.s) (the_member (tables_of l.s) l.m)) ≡ all (child_right (tables_of l.s) l.k) (drop l.i (children_of (tables_of l.s) (the_member (tables_of l.s) l.m))))
