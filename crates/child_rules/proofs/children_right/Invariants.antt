use Rattle.spec.specs.Bytes.{all}
use Rattle.child_rules.specs.Member.{member_children_right}
use Rattle.spec.specs.Image.{children_right, tables_of}
use Prim.Native.Nat.{◌≤◌}
use mathlib.Core.Path.{◌≡◌}
use lib.ListN.{drop}
use Rattle.child_rules.proofs.children_right.Given as goal

abbrev pub invariant-loop-m : goal.invariant-loop-m
invariant-loop-m l = (l.m ≤ l.im.members) × (children_right (tables_of l.s) ≡ all (member_children_right (tables_of l.s)) (drop l.m (tables_of l.s).members))
