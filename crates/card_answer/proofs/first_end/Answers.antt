use Prim.Native.Nat.{ℕ, suc, ◌+◌, ◌-◌, ◌≤◌, ◌<◌}
use native.Mathlib.Omega.{arith}
use mathlib.Core.Path.{◌≡◌, ap, sym, ◌∙◌}
use lib.Dec.{eqb}
use lib.ListN.{length, drop}
use borrow.Author.Rules.{rules}
use Rattle.spec.specs.Bytes.{place}
use Rattle.card_answer.specs.CardingLaws.{feed-here, feed-later, feed-never, behind-at, behind-none}
use Rattle.card_answer.proofs.first_end.Goals as goal

pub loop-i-init : goal.loop-i-init
loop-i-init c = omega arith

pub returns-then-s-i-eq10 : goal.returns-then-s-i-eq10
returns-then-s-i-eq10 c =
    let s = c.args.s.now in
    let i = c.loop-i.i in
    (omega arith, behind-at s i (omega (arith, c.loop-i.invariant.1, feed-here s i (omega arith) c.if-s-i-eq10.true)))

pub loop-i-preserved : goal.loop-i-preserved
loop-i-preserved c =
    let s = c.args.s.now in
    let i = c.loop-i.i in
    (omega arith, omega (arith, c.loop-i.invariant.1, feed-later s i (omega arith) c.if-s-i-eq10.false))

pub returns : goal.returns
returns c =
    let s = c.args.s.now in
    let i = c.loop-i.i in
    (omega arith, behind-none s (length s) (omega arith) (omega (arith, c.loop-i.invariant.1, feed-never s i (omega arith))))
