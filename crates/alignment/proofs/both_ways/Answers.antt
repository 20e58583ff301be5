use Rattle.alignment.proofs.Many.{ways-left, ways-right, ways-both}
use Rattle.alignment.specs.Members.{child_classes}
use Rattle.spec.specs.Image.{tables_of, the_member}
use mathlib.Core.Path.{sym, ◌∙◌}
use borrow.Author.Rules.{rules}
use Rattle.alignment.proofs.both_ways.Goals as goal

pub returns-then-twins : goal.returns-then-twins
returns-then-twins c =
    let t = tables_of c.args.s.now in
    ways-left (the_member t c.args.a).op (child_classes t c.args.a) (child_classes t c.args.b) (sym c.if-twins.true ∙ c.twins.ensures)

pub returns-then-twins-2 : goal.returns-then-twins-2
returns-then-twins-2 c =
    let t = tables_of c.args.s.now in
    ways-right (the_member t c.args.a).op (child_classes t c.args.a) (child_classes t c.args.b) (sym c.if-twins.false ∙ c.twins.ensures) (sym c.if-twins-2.true ∙ c.twins-2.ensures)

pub returns : goal.returns
returns c =
    let t = tables_of c.args.s.now in
    ways-both (the_member t c.args.a).op (child_classes t c.args.a) (child_classes t c.args.b) (sym c.if-twins.false ∙ c.twins.ensures) (sym c.if-twins-2.false ∙ c.twins-2.ensures)
