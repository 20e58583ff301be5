use Rattle.graph.specs.TurnLaws.{check-none, check-one, turning-cut, turning-end, turning-few, turning-full, turning-on, turning-pair, turning-room, turning-start}
use Rattle.image.specs.Loaded.{classes-many}
use Rattle.query.specs.Settings.{limits_of}
use Rattle.spec.specs.Image.{tables_of}
use mathlib.Core.Path.{refl}
use native.Mathlib.Omega.{arith}
use borrow.Author.Rules.{rules}
use Rattle.graph.proofs.build_from.Goals as goal

pub loop-i-init : goal.loop-i-init
loop-i-init c =
    (turning-start (limits_of c.args.lim) (tables_of c.args.s.now) c.args.im.classes c.args.budget.left c.args.graph.now c.args.n0 c.requires.2 c.requires.3, refl)

pub returns-then-not-check : goal.returns-then-not-check
returns-then-not-check c =
    turning-cut (limits_of c.args.lim) (tables_of c.args.s.now) c.args.im.classes c.loop-i.invariant.0 c.loop-i-test.true (check-none c.loop-i.b c.spend-check.result c.spend-check.ensures c.if-not-check.true)

pub left_at-l-requires : goal.left_at-l-requires
left_at-l-requires c =
    let d = c.loop-i.invariant.0 in
    (d.holds.keys.wide, omega (arith, c.loop-i-test.true, d.holds.keys.few), turning-room (limits_of c.args.lim) (tables_of c.args.s.now) c.args.im.classes d c.loop-i-test.true)

pub right_at-r-requires : goal.right_at-r-requires
right_at-r-requires c =
    let d = c.loop-i.invariant.0 in
    (d.holds.keys.wide, omega (arith, c.loop-i-test.true, d.holds.keys.few), turning-room (limits_of c.args.lim) (tables_of c.args.s.now) c.args.im.classes d c.loop-i-test.true)

pub passed_over-skipped-requires : goal.passed_over-skipped-requires
passed_over-skipped-requires c =
    let d = c.loop-i.invariant.0 in
    let many = classes-many c.args.s.now c.args.im c.requires.0 in
    let p = turning-pair (limits_of c.args.lim) (tables_of c.args.s.now) c.args.im.classes d c.loop-i-test.true c.left_at-l.result c.right_at-r.result c.left_at-l.ensures.0 c.right_at-r.ensures.0 in
    (c.requires.0, c.requires.1, omega (arith, p.0, many), omega (arith, p.1, many), c.requires.4)

pub overflow_add-skipped : goal.overflow_add-skipped
overflow_add-skipped c =
    let d = c.loop-i.invariant.0 in
    let k = turning-few (limits_of c.args.lim) (tables_of c.args.s.now) c.args.im.classes d c.loop-i-test.true c.left_at-l.result c.right_at-r.result c.left_at-l.ensures.0 c.right_at-r.ensures.0 c.requires.1 c.passed_over-skipped.result c.passed_over-skipped.ensures in
    omega (arith, k)

pub enter_joins-requires : goal.enter_joins-requires
enter_joins-requires c =
    let d = c.loop-i.invariant.0 in
    let many = classes-many c.args.s.now c.args.im c.requires.0 in
    let p = turning-pair (limits_of c.args.lim) (tables_of c.args.s.now) c.args.im.classes d c.loop-i-test.true c.left_at-l.result c.right_at-r.result c.left_at-l.ensures.0 c.right_at-r.ensures.0 in
    (c.requires.0, c.requires.1, omega (arith, p.0, many), omega (arith, p.1, many), d.holds)

pub returns-in_err-n : goal.returns-in_err-n
returns-in_err-n c =
    rw c.from_residual.ensures (turning-full (limits_of c.args.lim) (tables_of c.args.s.now) c.args.im.classes c.loop-i.invariant.0 c.loop-i-test.true c.left_at-l.result c.right_at-r.result c.left_at-l.ensures.0 c.right_at-r.ensures.0 c.spend-check.result.budget.left (check-one c.loop-i.b c.spend-check.result c.spend-check.ensures c.if-not-check.false) c.enter_joins.result c.enter_joins.ensures c.in_err-n.was)

pub overflow_add-i : goal.overflow_add-i
overflow_add-i c =
    let h = c.loop-i.invariant.0.holds.keys.few in
    let k = c.loop-i-test.true in
    search rules

pub loop-i-smaller : goal.loop-i-smaller
loop-i-smaller c =
    omega (arith, c.loop-i.invariant.0.holds.keys.few, c.loop-i-test.true)

pub loop-i-preserved : goal.loop-i-preserved
loop-i-preserved c =
    (turning-on (limits_of c.args.lim) (tables_of c.args.s.now) c.args.im.classes c.loop-i.invariant.0 c.loop-i-test.true c.left_at-l.result c.right_at-r.result c.left_at-l.ensures.0 c.right_at-r.ensures.0 c.spend-check.result.budget.left (check-one c.loop-i.b c.spend-check.result c.spend-check.ensures c.if-not-check.false) c.requires.1 c.passed_over-skipped.result c.passed_over-skipped.ensures c.enter_joins.result c.enter_joins.ensures c.in_ok-n.was, omega (arith, c.loop-i.invariant.1, c.enter_joins.auto))

pub returns : goal.returns
returns c =
    turning-end (limits_of c.args.lim) (tables_of c.args.s.now) c.args.im.classes c.loop-i.invariant.0 c.loop-i.b refl c.loop-i-test.false
