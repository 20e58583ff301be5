use Rattle.changes.specs.MarkLaws.{marked_member}
use Rattle.laws.specs.Scans.{Scanned}
use Rattle.spec.specs.Image.{tables_of}
use Rattle.changes.proofs.any_member.Given as goal

abbrev pub invariant-loop-m : goal.invariant-loop-m
invariant-loop-m l = Scanned (marked_member (tables_of l.s) l.marks) (tables_of l.s).members l.initial.m l.to l.m
