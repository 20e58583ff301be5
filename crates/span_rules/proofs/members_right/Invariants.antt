use Rattle.spec.specs.Bytes.{all}
use Rattle.spec.specs.Image.{member_right, tables_of}
use Prim.Native.Nat.{◌≤◌}
use mathlib.Core.Path.{◌≡◌}
use lib.ListN.{drop}
use Rattle.span_rules.proofs.members_right.Given as goal

abbrev pub invariant-loop-m : goal.invariant-loop-m
invariant-loop-m l = (l.m ≤ l.im.members) × (all (member_right (tables_of l.s)) (tables_of l.s).members ≡ all (member_right (tables_of l.s)) (drop l.m (tables_of l.s).members))
