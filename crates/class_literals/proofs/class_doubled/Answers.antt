use Rattle.class_literals.proofs.LiteralLaws.{class-start, class-stop, class-go, class-end, class-there}
use Rattle.span_rules.specs.Within.{class-room}
use Rattle.spec.specs.Image.{tables_of}
use native.Mathlib.Omega.{arith}
use mathlib.Core.Path.{sym, ◌∙◌}
use Rattle.class_literals.proofs.class_doubled.Goals as goal

pub loop-i-init : goal.loop-i-init
loop-i-init c =
    let s = c.args.s.now in (
      omega arith,
      class-room s c.args.im c.requires.0 c.requires.2.classes_follow c.requires.1 c.first_member-from.ensures.0 c.member_count-n.ensures.0,
      class-start (tables_of s) c.args.c,
    )

pub member_doubled-requires : goal.member_doubled-requires
member_doubled-requires c = (c.requires.0, omega arith, c.requires.2, c.requires.3)

pub returns-then-member_doubled : goal.returns-then-member_doubled
returns-then-member_doubled c =
    let s = c.args.s.now in
    sym (c.loop-i.invariant.2
    ∙ class-stop (tables_of s) c.args.c (class-there s c.args.im c.requires.0 c.requires.1) c.requires.2.classes_follow c.loop-i.i c.first_member-from.ensures.0 c.member_count-n.ensures.0 (omega arith) c.member_doubled.ensures c.if-member_doubled.true)

pub loop-i-preserved : goal.loop-i-preserved
loop-i-preserved c =
    let s = c.args.s.now in (
      omega arith,
      omega arith,
      c.loop-i.invariant.2
          ∙ sym (class-go (tables_of s) c.args.c (class-there s c.args.im c.requires.0 c.requires.1) c.requires.2.classes_follow c.loop-i.i c.first_member-from.ensures.0 c.member_count-n.ensures.0 (omega arith) c.member_doubled.ensures c.if-member_doubled.false),
    )

pub returns : goal.returns
returns c =
    let s = c.args.s.now in
    sym (c.loop-i.invariant.2 ∙ class-end (tables_of s) c.args.c (class-there s c.args.im c.requires.0 c.requires.1) c.requires.2.classes_follow c.loop-i.i (omega (arith, c.member_count-n.ensures.0)))
