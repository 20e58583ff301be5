use mathlib.Core.Path.{ap}
use mathlib.Core.Bool.{not}
use Rattle.span_rules.specs.Within.{own-within, own_room}
use Rattle.child_rules.proofs.ChildLaws.{own-stop, own-go, own-end}
use Rattle.laws.specs.AcceptedTurns.{failed, passed}
use Rattle.spec.specs.Image.{child_right, tables_of, the_member}
use native.Mathlib.Omega.{arith}
use mathlib.Core.Path.{refl, sym, ◌∙◌}
use Rattle.child_rules.proofs.own_right.Goals as goal

pub loop-i-init : goal.loop-i-init
loop-i-init c =
    let s = c.args.s.now in
    (omega arith, own_room s c.args.im c.requires.0 c.requires.2 c.requires.1 c.first_child-from.ensures.0 c.child_count-n.ensures.0, refl)

pub returns-then-not-child_right : goal.returns-then-not-child_right
returns-then-not-child_right c =
    let s = c.args.s.now in
    sym (c.loop-i.invariant.2
    ∙ own-stop (tables_of s) (the_member (tables_of s) c.args.m) (own-within s c.args.im c.requires.0 c.requires.2 c.requires.1) c.loop-i.i c.first_child-from.ensures.0 (omega (arith, c.child_count-n.ensures.0)) (child_right (tables_of s) c.args.k)
    (failed c.child_right.ensures (ap not c.if-not-child_right.true)))

pub loop-i-preserved : goal.loop-i-preserved
loop-i-preserved c =
    let s = c.args.s.now in (
      omega arith,
      omega arith,
      c.loop-i.invariant.2
          ∙ sym (own-go (tables_of s) (the_member (tables_of s) c.args.m) (own-within s c.args.im c.requires.0 c.requires.2 c.requires.1) c.loop-i.i c.first_child-from.ensures.0 (omega (arith, c.child_count-n.ensures.0)) (child_right (tables_of s) c.args.k)
          (passed c.child_right.ensures (ap not c.if-not-child_right.false))),
    )

pub returns : goal.returns
returns c =
    let s = c.args.s.now in
    sym (c.loop-i.invariant.2 ∙ own-end (tables_of s) (the_member (tables_of s) c.args.m) (own-within s c.args.im c.requires.0 c.requires.2 c.requires.1) c.loop-i.i (child_right (tables_of s) c.args.k) (omega (arith, c.child_count-n.ensures.0)))
