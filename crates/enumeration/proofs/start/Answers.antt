use Rattle.enumeration.proofs.Turns.{start-at}
use Rattle.spec.specs.Image.{tables_of}
use mathlib.Core.Path.{sym, ◌∙◌}
use Rattle.enumeration.proofs.start.Goals as goal

pub returns-then-itself : goal.returns-then-itself
returns-then-itself c =
    start-at (tables_of c.args.s.now) c.args.l c.args.r c.members_of-span.ensures.0 c.first_member-right.ensures.0 (sym c.itself.ensures ∙ c.if-itself.true)

pub returns : goal.returns
returns c =
    start-at (tables_of c.args.s.now) c.args.l c.args.r c.members_of-span.ensures.0 c.first_member-right.ensures.0 (sym c.itself.ensures ∙ c.if-itself.false)
