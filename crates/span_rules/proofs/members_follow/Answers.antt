use Rattle.span_rules.proofs.SpanLaws.{span-go, span-stop}
use Rattle.image.specs.Loaded.{members-many, children-many}
use Rattle.laws.specs.AcceptedTurns.{follow-end}
use Rattle.laws.specs.AcceptedSpans.{member-span, member-spans-length}
use Rattle.laws.specs.Valid.{member_spans}
use Rattle.spec.specs.Image.{tables_of}
use lib.Dec.{eqb}
use native.Mathlib.Omega.{arith}
use mathlib.Core.Path.{refl, ap, sym, ◌∙◌}
use lib.ListN.{length}
use Rattle.span_rules.proofs.members_follow.Goals as goal

pub loop-m-init : goal.loop-m-init
loop-m-init c = (omega arith, omega arith, refl)

pub returns-then-first_child-at : goal.returns-then-first_child-at
returns-then-first_child-at c =
    let s = c.args.s.now in
    sym (c.loop-m.invariant.2
    ∙ span-stop (length (tables_of s).children) c.loop-m.at (member_spans (tables_of s)) c.loop-m.m (omega (arith, member-spans-length (tables_of s), members-many s c.args.im c.requires))
    (member-span (tables_of s) c.loop-m.m) c.first_child.ensures.0 c.if-first_child-at.true)

pub loop-m-preserved : goal.loop-m-preserved
loop-m-preserved c =
    let s = c.args.s.now in (
      omega arith,
      omega arith,
      c.loop-m.invariant.2
          ∙ sym (span-go (length (tables_of s).children) c.loop-m.at (member_spans (tables_of s)) c.loop-m.m (omega (arith, member-spans-length (tables_of s), members-many s c.args.im c.requires))
          (member-span (tables_of s) c.loop-m.m) c.first_child.ensures.0 c.child_count-at.ensures.0 c.if-first_child-at.false),
    )

pub returns : goal.returns
returns c =
    let s = c.args.s.now in
    sym (c.loop-m.invariant.2
    ∙ follow-end (length (tables_of s).children) c.loop-m.at (member_spans (tables_of s)) c.loop-m.m (omega (arith, member-spans-length (tables_of s), members-many s c.args.im c.requires))
    ∙ ap (eqb c.loop-m.at) (children-many s c.args.im c.requires))
