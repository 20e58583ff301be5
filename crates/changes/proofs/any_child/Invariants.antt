use Rattle.changes.specs.MarkLaws.{marked_child}
use Rattle.laws.specs.Scans.{Scanned}
use Rattle.spec.specs.Image.{tables_of}
use Rattle.changes.proofs.any_child.Given as goal

abbrev pub invariant-loop-k : goal.invariant-loop-k
invariant-loop-k l = Scanned (marked_child l.marks) (tables_of l.s).children l.initial.k l.to l.k
