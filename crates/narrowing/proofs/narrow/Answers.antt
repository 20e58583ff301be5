use Rattle.narrowing.proofs.Scan.{upto-more, fails-here, fits_all}
use native.Mathlib.Omega.{arith}
use Rattle.narrowing.proofs.narrow.Goals as goal

pub loop-i-init : goal.loop-i-init
loop-i-init c = omega arith

pub count_at-requires : goal.count_at-requires
count_at-requires c = omega arith

pub returns-then-count_at-gt-MAX : goal.returns-then-count_at-gt-MAX
returns-then-count_at-gt-MAX c =
    let a = c.args in
    fails-here a.mono.now a.n c.loop-i.i c.count_at.result (omega arith) (omega arith) c.count_at.ensures c.loop-i.invariant c.if-count_at-gt-MAX.true

pub loop-i-preserved : goal.loop-i-preserved
loop-i-preserved c =
    let a = c.args in
    upto-more a.mono.now a.n c.loop-i.i c.count_at.result (omega arith) (omega arith) c.count_at.ensures c.loop-i.invariant c.if-count_at-gt-MAX.false

pub returns : goal.returns
returns c =
    let a = c.args in
    fits_all a.mono.now a.n c.loop-i.i c.loop-i.invariant (omega arith)
