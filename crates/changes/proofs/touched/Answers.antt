use Rattle.changes.specs.Marks.{marked_in}
use Rattle.changes.specs.MarkLaws.{parts-identity, parts-itself, parts-members}
use Rattle.changes.specs.Readers.{class-few}
use Rattle.spec.specs.Bytes.{both}
use Rattle.spec.specs.Image.{tables_of}
use native.Mathlib.Omega.{arith}
use mathlib.Core.Bool.{Bool}
use mathlib.Core.Path.{sym, ap, ◌∙◌}
use Rattle.changes.proofs.touched.Goals as goal

pub returns-then-through : goal.returns-then-through
returns-then-through c =
    sym (parts-identity (marked_in c.args.marks.now) (tables_of c.args.s.now) c.args.c (sym c.requires.4 ∙ c.if-through.true))

pub marked_itself-requires : goal.marked_itself-requires
marked_itself-requires c =
    omega (arith, c.requires.3, class-few c.args.s.now c.args.im c.requires.0 c.requires.1 c.requires.2)

pub returns-then-marked_itself : goal.returns-then-marked_itself
returns-then-marked_itself c =
    sym (parts-itself (marked_in c.args.marks.now) (tables_of c.args.s.now) c.args.c (sym c.requires.4 ∙ c.if-through.false) (ap (λ (b : Bool). both b (marked_in c.args.marks.now c.args.c)) (sym c.requires.5) ∙ sym c.marked_itself.ensures ∙ c.if-marked_itself.true))

pub returns : goal.returns
returns c =
    c.any_member.ensures ∙ sym (parts-members (marked_in c.args.marks.now) (tables_of c.args.s.now) c.args.c (sym c.requires.4 ∙ c.if-through.false) (ap (λ (b : Bool). both b (marked_in c.args.marks.now c.args.c)) (sym c.requires.5) ∙ sym c.marked_itself.ensures ∙ c.if-marked_itself.false))
