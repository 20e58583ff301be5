use mathlib.Core.Path.{ap}
use mathlib.Core.Bool.{not}
use Rattle.image.specs.Loaded.{members-many}
use Rattle.laws.specs.AcceptedTurns.{all_go, all-stop, all_end, failed, passed}
use Rattle.child_rules.specs.Member.{member_children_right, children-right}
use Rattle.spec.specs.Image.{tables_of}
use native.Mathlib.Omega.{arith}
use mathlib.Core.Path.{sym, ◌∙◌}
use Rattle.child_rules.proofs.children_right.Goals as goal

pub loop-m-init : goal.loop-m-init
loop-m-init c = (omega arith, children-right (tables_of c.args.s.now))

pub returns-then-not-member_children_right : goal.returns-then-not-member_children_right
returns-then-not-member_children_right c =
    let s = c.args.s.now in
    sym (c.loop-m.invariant.1
    ∙ all-stop (member_children_right (tables_of s)) (tables_of s).members c.loop-m.m _ (omega (arith, members-many s c.args.im c.requires.0)) (failed c.member_children_right.ensures (ap not c.if-not-member_children_right.true)))

pub loop-m-preserved : goal.loop-m-preserved
loop-m-preserved c =
    let s = c.args.s.now in (
      omega arith,
      c.loop-m.invariant.1
          ∙ sym (all_go (member_children_right (tables_of s)) (tables_of s).members c.loop-m.m _ (omega (arith, members-many s c.args.im c.requires.0)) (passed c.member_children_right.ensures (ap not c.if-not-member_children_right.false))),
    )

pub returns : goal.returns
returns c =
    let s = c.args.s.now in
    sym (c.loop-m.invariant.1 ∙ all_end (member_children_right (tables_of s)) (tables_of s).members c.loop-m.m (omega (arith, members-many s c.args.im c.requires.0)))
