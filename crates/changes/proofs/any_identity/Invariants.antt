use Rattle.changes.specs.Marks.{marked_in}
use Rattle.changes.specs.MarkLaws.{with_identity}
use Rattle.laws.specs.Scans.{Scanned}
use Rattle.spec.specs.Image.{tables_of}
use Rattle.changes.proofs.any_identity.Given as goal

abbrev pub invariant-loop-o : goal.invariant-loop-o
invariant-loop-o l = Scanned (with_identity (marked_in l.marks)) (tables_of l.s).operations 0 l.n l.o
