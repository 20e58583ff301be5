use Rattle.class_literals.proofs.LiteralLaws.{no-literal, a-literal}
use Rattle.span_rules.specs.Within.{op_room}
use Rattle.class_literals.specs.Slots.{unmarked, slot-low}
use Rattle.spec.specs.Image.{tables_of, the_member}
use mathlib.Core.Path.{sym, ◌∙◌}
use Rattle.class_literals.proofs.member_doubled.Goals as goal

pub kind-requires : goal.kind-requires
kind-requires c = (c.requires.0, op_room c.args.s.now c.args.im c.requires.0 c.requires.2 c.requires.1 c.member_op-o.ensures.0)

pub returns-then-kind-ne-LIT : goal.returns-then-kind-ne-LIT
returns-then-kind-ne-LIT c =
    let s = c.args.s.now in
    no-literal (tables_of s) (the_member (tables_of s) c.args.m) c.args.to c.member_op-o.ensures.0 c.kind.ensures.0 c.if-kind-ne-LIT.true

pub returns-then-size_u16-to : goal.returns-then-size_u16-to
returns-then-size_u16-to c =
    let s = c.args.s.now in
    a-literal (tables_of s) (the_member (tables_of s) c.args.m) c.args.to c.member_op-o.ensures.0 c.kind.ensures.0 c.if-kind-ne-LIT.false c.member_value-v.ensures.0
    (sym (unmarked (tables_of s) c.args.last.now c.member_op-o.result c.member_value-v.result c.args.to c.requires.3 (slot-low c.args.last.now c.member_op-o.result c.member_value-v.result c.slot-at.ensures.0 c.size_u16.ensures.0 c.if-size_u16-to.true)))

pub literal_from-requires : goal.literal_from-requires
literal_from-requires c = (c.requires.0, sym c.kind.ensures.0 ∙ c.if-kind-ne-LIT.false)

pub returns : goal.returns
returns c =
    let s = c.args.s.now in
    a-literal (tables_of s) (the_member (tables_of s) c.args.m) c.args.to c.member_op-o.ensures.0 c.kind.ensures.0 c.if-kind-ne-LIT.false c.member_value-v.ensures.0 c.literal_from.ensures
