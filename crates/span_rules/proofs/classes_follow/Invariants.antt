use Rattle.laws.specs.Valid.{class_spans}
use Rattle.spec.specs.Image.{spans_follow, tables_of}
use Prim.Native.Nat.{◌≤◌, ◌<◌}
use mathlib.Core.Path.{◌≡◌}
use lib.ListN.{length, drop}
use Rattle.span_rules.proofs.classes_follow.Given as goal

abbrev pub invariant-loop-c : goal.invariant-loop-c
invariant-loop-c l = (l.c ≤ l.im.classes) × (l.at < 131072) × (spans_follow (length (tables_of l.s).members) 0 (class_spans (tables_of l.s)) ≡ spans_follow (length (tables_of l.s).members) l.at (drop l.c (class_spans (tables_of l.s))))
