use Rattle.changes.specs.MarkLaws.{with_identity}
use Rattle.laws.specs.Scans.{Scanned}
use Rattle.spec.specs.Image.{tables_of}
use mathlib.Core.Bool.{true}
use Rattle.changes.proofs.has_identity.Given as goal

abbrev pub invariant-loop-o : goal.invariant-loop-o
invariant-loop-o l = Scanned (with_identity (λ e. true)) (tables_of l.s).operations 0 l.n l.o
