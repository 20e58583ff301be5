use Rattle.term_order.specs.Steps.{going_start, going-down, going_less, going-greater, going-same}
use Rattle.term_order.proofs.structural_cmp.Goals as goal

pub returns-then-x-y : goal.returns-then-x-y
returns-then-x-y c =
    let a = c.args in
    going-same a.terms.now a.runs.now a.x a.y c.requires.1 c.if-x-y.true

pub loop-c-init : goal.loop-c-init
loop-c-init c =
    let a = c.args in
    going_start a.terms.now a.runs.now a.x a.y c.requires.1 c.requires.2 c.if-x-y.false

pub compare_step-s-requires : goal.compare_step-s-requires
compare_step-s-requires c = (c.requires.0, c.loop-c.invariant.left, c.loop-c.invariant.right, c.loop-c.invariant.apart)

pub returns-in-Before : goal.returns-in-Before
returns-in-Before c =
    let a = c.args in
    going_less a.terms.now a.runs.now a.x a.y c.loop-c.a c.loop-c.b c.loop-c.invariant (rw c.in-Before.is at c.compare_step-s.ensures)

pub returns-in-After : goal.returns-in-After
returns-in-After c =
    let a = c.args in
    going-greater a.terms.now a.runs.now a.x a.y c.loop-c.a c.loop-c.b c.loop-c.invariant (rw c.in-After.is at c.compare_step-s.ensures)

pub loop-c-smaller : goal.loop-c-smaller
loop-c-smaller c = (rw c.in-RunsBelow.is at c.compare_step-s.ensures).0

pub loop-c-preserved : goal.loop-c-preserved
loop-c-preserved c =
    let a = c.args in
    going-down a.terms.now a.runs.now a.x a.y c.loop-c.a c.loop-c.b c.loop-c.invariant _ _ (rw c.in-RunsBelow.is at c.compare_step-s.ensures)
