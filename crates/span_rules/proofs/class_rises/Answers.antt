use Rattle.span_rules.proofs.SpanLaws.{order-go, order-stop, order-end}
use Rattle.span_rules.specs.Within.{class-room}
use Rattle.image.specs.Loaded.{classes-many}
use Rattle.laws.specs.AcceptedTurns.{rises-start}
use Rattle.laws.specs.AcceptedSpans.{classes-within}
use Rattle.spec.specs.Image.{members_in, tables_of, the_class}
use mathlib.Core.List.{map}
use native.Mathlib.Omega.{arith}
use mathlib.Core.Path.{sym, ◌∙◌}
use Rattle.span_rules.proofs.class_rises.Goals as goal

pub loop-i-init : goal.loop-i-init
loop-i-init c =
    let s = c.args.s.now in (
      omega arith,
      class-room s c.args.im c.requires.0 c.requires.2 c.requires.1 c.first_member-from.ensures.0 c.member_count-n.ensures.0,
      sym (rises-start (map (λ m. m.op) (members_in (tables_of s) (the_class (tables_of s) c.args.c)))),
    )

pub returns-then-o-last : goal.returns-then-o-last
returns-then-o-last c =
    let s = c.args.s.now in
    sym (c.loop-i.invariant.2
    ∙ order-stop (tables_of s) (the_class (tables_of s) c.args.c) (classes-within (tables_of s) c.requires.2 c.args.c (omega (arith, classes-many s c.args.im c.requires.0))) c.loop-i.last c.loop-i.i c.first_member-from.ensures.0 (omega (arith, c.member_count-n.ensures.0)) c.member_op-o.ensures.0
    c.if-o-last.true)

pub loop-i-preserved : goal.loop-i-preserved
loop-i-preserved c =
    let s = c.args.s.now in (
      omega arith,
      omega arith,
      c.loop-i.invariant.2
          ∙ sym (order-go (tables_of s) (the_class (tables_of s) c.args.c) (classes-within (tables_of s) c.requires.2 c.args.c (omega (arith, classes-many s c.args.im c.requires.0))) c.loop-i.last c.loop-i.i c.first_member-from.ensures.0 (omega (arith, c.member_count-n.ensures.0)) c.member_op-o.ensures.0
          c.if-o-last.false),
    )

pub returns : goal.returns
returns c =
    let s = c.args.s.now in
    sym (c.loop-i.invariant.2 ∙ order-end (tables_of s) (the_class (tables_of s) c.args.c) (classes-within (tables_of s) c.requires.2 c.args.c (omega (arith, classes-many s c.args.im c.requires.0))) c.loop-i.last c.loop-i.i (omega (arith, c.member_count-n.ensures.0)))
