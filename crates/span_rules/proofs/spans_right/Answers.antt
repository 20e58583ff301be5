use mathlib.Core.Path.{ap}
use mathlib.Core.Bool.{not}
use Rattle.span_rules.proofs.SpanLaws.{classes-break, children-break, count-breaks, member-breaks, order-left}
use Rattle.laws.specs.AcceptedTurns.{failed, passed}
use Rattle.laws.specs.AcceptedSpans.{follow-rule}
use Rattle.laws.specs.Valid.{class_spans}
use Rattle.spec.specs.Image.{tables_of}
use lib.ListN.{length}
use Rattle.span_rules.proofs.spans_right.Goals as goal

pub returns-then-not-classes_follow : goal.returns-then-not-classes_follow
returns-then-not-classes_follow c =
    classes-break (tables_of c.args.s.now) (failed c.classes_follow.ensures (ap not c.if-not-classes_follow.true))

pub returns-then-not-members_follow : goal.returns-then-not-members_follow
returns-then-not-members_follow c =
    children-break (tables_of c.args.s.now) (passed c.classes_follow.ensures (ap not c.if-not-classes_follow.false)) (failed c.members_follow.ensures (ap not c.if-not-members_follow.true))

pub returns-then-not-counts_some : goal.returns-then-not-counts_some
returns-then-not-counts_some c =
    count-breaks (tables_of c.args.s.now) (passed c.classes_follow.ensures (ap not c.if-not-classes_follow.false)) (passed c.members_follow.ensures (ap not c.if-not-members_follow.false)) (failed c.counts_some.ensures (ap not c.if-not-counts_some.true))

pub returns-then-not-members_right : goal.returns-then-not-members_right
returns-then-not-members_right c =
    member-breaks (tables_of c.args.s.now) (passed c.classes_follow.ensures (ap not c.if-not-classes_follow.false)) (passed c.members_follow.ensures (ap not c.if-not-members_follow.false)) (passed c.counts_some.ensures (ap not c.if-not-counts_some.false)) (failed c.members_right.ensures (ap not c.if-not-members_right.true))

pub classes_rise-requires : goal.classes_rise-requires
classes_rise-requires c =
    (c.requires, (follow-rule (length (tables_of c.args.s.now).members) (class_spans (tables_of c.args.s.now))).0 (passed c.classes_follow.ensures (ap not c.if-not-classes_follow.false)))

pub returns : goal.returns
returns c =
    order-left (tables_of c.args.s.now) (passed c.classes_follow.ensures (ap not c.if-not-classes_follow.false)) (passed c.members_follow.ensures (ap not c.if-not-members_follow.false)) (passed c.counts_some.ensures (ap not c.if-not-counts_some.false)) (passed c.members_right.ensures (ap not c.if-not-members_right.false)) c.classes_rise.ensures
