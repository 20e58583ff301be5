use Rattle.span_rules.proofs.SpanLaws.{span-go, span-stop}
use Rattle.image.specs.Loaded.{classes-many, members-many}
use Rattle.laws.specs.AcceptedTurns.{follow-end}
use Rattle.laws.specs.AcceptedSpans.{class-span, class-spans-length}
use Rattle.laws.specs.Valid.{class_spans}
use Rattle.spec.specs.Image.{tables_of}
use lib.Dec.{eqb}
use native.Mathlib.Omega.{arith}
use mathlib.Core.Path.{refl, ap, sym, ◌∙◌}
use lib.ListN.{length}
use Rattle.span_rules.proofs.classes_follow.Goals as goal

pub loop-c-init : goal.loop-c-init
loop-c-init c = (omega arith, omega arith, refl)

pub returns-then-first_member-at : goal.returns-then-first_member-at
returns-then-first_member-at c =
    let s = c.args.s.now in
    sym (c.loop-c.invariant.2
    ∙ span-stop (length (tables_of s).members) c.loop-c.at (class_spans (tables_of s)) c.loop-c.c (omega (arith, class-spans-length (tables_of s), classes-many s c.args.im c.requires))
    (class-span (tables_of s) c.loop-c.c) c.first_member.ensures.0 c.if-first_member-at.true)

pub loop-c-preserved : goal.loop-c-preserved
loop-c-preserved c =
    let s = c.args.s.now in (
      omega arith,
      omega arith,
      c.loop-c.invariant.2
          ∙ sym (span-go (length (tables_of s).members) c.loop-c.at (class_spans (tables_of s)) c.loop-c.c (omega (arith, class-spans-length (tables_of s), classes-many s c.args.im c.requires))
          (class-span (tables_of s) c.loop-c.c) c.first_member.ensures.0 c.member_count-at.ensures.0 c.if-first_member-at.false),
    )

pub returns : goal.returns
returns c =
    let s = c.args.s.now in
    sym (c.loop-c.invariant.2
    ∙ follow-end (length (tables_of s).members) c.loop-c.at (class_spans (tables_of s)) c.loop-c.c (omega (arith, class-spans-length (tables_of s), classes-many s c.args.im c.requires))
    ∙ ap (eqb c.loop-c.at) (members-many s c.args.im c.requires))
