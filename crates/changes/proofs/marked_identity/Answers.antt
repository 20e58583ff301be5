use Rattle.changes.specs.Marks.{marked_in}
use Rattle.changes.specs.MarkLaws.{identity-none, identity-some}
use Rattle.changes.specs.Readers.{identity-few}
use Rattle.spec.specs.Image.{tables_of, the_operation}
use native.Mathlib.Omega.{arith}
use mathlib.Core.Path.{sym, ◌∙◌}
use Rattle.changes.proofs.marked_identity.Goals as goal

pub returns-then-e-eq-NO_IDENTITY : goal.returns-then-e-eq-NO_IDENTITY
returns-then-e-eq-NO_IDENTITY c =
    sym (identity-none (marked_in c.args.marks.now) (the_operation (tables_of c.args.s.now) c.args.o) c.identity-e.ensures.0 c.if-e-eq-NO_IDENTITY.true)

pub marked-requires : goal.marked-requires
marked-requires c =
    omega (arith, c.requires.3, identity-few c.args.s.now c.args.im c.requires.0 c.requires.1 c.args.o c.requires.2 c.identity-e.ensures.0 c.if-e-eq-NO_IDENTITY.false)

pub returns : goal.returns
returns c =
    c.marked.ensures ∙ sym (identity-some (marked_in c.args.marks.now) (the_operation (tables_of c.args.s.now) c.args.o) c.identity-e.ensures.0 c.if-e-eq-NO_IDENTITY.false)
