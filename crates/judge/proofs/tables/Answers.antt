use mathlib.Core.Bool.{not}
use Rattle.judge.proofs.VerdictLaws.{operations-refused, spans-refused, children-refused, bests-refused, literals-refused, tables-accepted}
use Rattle.judge.specs.Verdict.{verdict_as}
use Rattle.judge.specs.declared.Verdict.TheVariants.{Doubled}
use Rattle.image.specs.Loaded.{classes-many}
use Rattle.laws.specs.AcceptedTurns.{failed, passed}
use Rattle.laws.specs.Doubled.{lowest-none, lowest-some, lowest-within}
use Rattle.laws.specs.AcceptedRules.{spans-rule, children-rule}
use Rattle.spec.specs.Image.{tables_of}
use native.Mathlib.Omega.{arith}
use mathlib.Core.Path.{ap, ◌∙◌}
use Rattle.judge.proofs.tables.Goals as goal

pub returns-then-not-operations_right : goal.returns-then-not-operations_right
returns-then-not-operations_right c =
    let z = operations-refused (tables_of c.args.s.now) (failed c.operations_right.ensures (ap not c.if-not-operations_right.true)) in
    ap (verdict_as c.args.im c.args.s.now) z

pub returns-then-not-spans_right : goal.returns-then-not-spans_right
returns-then-not-spans_right c =
    let z = spans-refused (tables_of c.args.s.now) (passed c.operations_right.ensures (ap not c.if-not-operations_right.false)) (failed c.spans_right.ensures (ap not c.if-not-spans_right.true)) in
    ap (verdict_as c.args.im c.args.s.now) z

pub children_right-requires : goal.children_right-requires
children_right-requires c = (c.requires.0, (spans-rule (tables_of c.args.s.now)).0 (passed c.spans_right.ensures (ap not c.if-not-spans_right.false)))

pub returns-then-not-children_right : goal.returns-then-not-children_right
returns-then-not-children_right c =
    let z = children-refused (tables_of c.args.s.now) (passed c.operations_right.ensures (ap not c.if-not-operations_right.false)) (passed c.spans_right.ensures (ap not c.if-not-spans_right.false)) (failed c.children_right.ensures (ap not c.if-not-children_right.true)) in
    ap (verdict_as c.args.im c.args.s.now) z

pub bests_right-requires : goal.bests_right-requires
bests_right-requires c = (c.requires.0, (spans-rule (tables_of c.args.s.now)).0 (passed c.spans_right.ensures (ap not c.if-not-spans_right.false)), (children-rule (tables_of c.args.s.now)).0 (passed c.children_right.ensures (ap not c.if-not-children_right.false)))

pub returns-then-not-bests_right : goal.returns-then-not-bests_right
returns-then-not-bests_right c =
    let z = bests-refused (tables_of c.args.s.now) (passed c.operations_right.ensures (ap not c.if-not-operations_right.false)) (passed c.spans_right.ensures (ap not c.if-not-spans_right.false)) (passed c.children_right.ensures (ap not c.if-not-children_right.false)) (failed c.bests_right.ensures (ap not c.if-not-bests_right.true)) in
    ap (verdict_as c.args.im c.args.s.now) z

pub doubled-c-requires : goal.doubled-c-requires
doubled-c-requires c = (c.requires.0, (spans-rule (tables_of c.args.s.now)).0 (passed c.spans_right.ensures (ap not c.if-not-spans_right.false)), c.requires.1)

pub returns-then-c-im : goal.returns-then-c-im
returns-then-c-im c =
    let p = (lowest-some (tables_of c.args.s.now)).1 (omega (arith, c.doubled-c.ensures, c.if-c-im.true, classes-many c.args.s.now c.args.im c.requires.0)) in
    let z = literals-refused (tables_of c.args.s.now) (passed c.operations_right.ensures (ap not c.if-not-operations_right.false)) (passed c.spans_right.ensures (ap not c.if-not-spans_right.false)) (passed c.children_right.ensures (ap not c.if-not-children_right.false)) (passed c.bests_right.ensures (ap not c.if-not-bests_right.false)) p in
    ap Doubled c.doubled-c.ensures ∙ ap (verdict_as c.args.im c.args.s.now) z

pub returns : goal.returns
returns c =
    let z =
    tables-accepted (tables_of c.args.s.now) (passed c.operations_right.ensures (ap not c.if-not-operations_right.false)) (passed c.spans_right.ensures (ap not c.if-not-spans_right.false)) (passed c.children_right.ensures (ap not c.if-not-children_right.false)) (passed c.bests_right.ensures (ap not c.if-not-bests_right.false))
    ((lowest-none (tables_of c.args.s.now)).1 (omega (arith, c.doubled-c.ensures, lowest-within (tables_of c.args.s.now), c.if-c-im.false, classes-many c.args.s.now c.args.im c.requires.0))) in
    ap (verdict_as c.args.im c.args.s.now) z
