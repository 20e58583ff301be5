use Rattle.laws.specs.Valid.{member_spans}
use Rattle.spec.specs.Image.{spans_follow, tables_of}
use Prim.Native.Nat.{◌≤◌, ◌<◌}
use mathlib.Core.Path.{◌≡◌}
use lib.ListN.{length, drop}
use Rattle.span_rules.proofs.members_follow.Given as goal

abbrev pub invariant-loop-m : goal.invariant-loop-m
invariant-loop-m l = (l.m ≤ l.im.members) × (l.at < 131072) × (spans_follow (length (tables_of l.s).children) 0 (member_spans (tables_of l.s)) ≡ spans_follow (length (tables_of l.s).children) l.at (drop l.m (member_spans (tables_of l.s))))
