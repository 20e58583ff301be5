use Rattle.skipped_under.proofs.Terms.{same-lengths, same_stop, same_more, same_end}
use native.Mathlib.Omega.{arith}
use mathlib.Core.Path.{refl}
use Rattle.skipped_under.proofs.same.Goals as goal

pub returns-then-n-m : goal.returns-then-n-m
returns-then-n-m c = same-lengths c.args.left.now c.args.right.now c.args.n c.args.m c.requires.0 c.requires.1 c.if-n-m.true

pub loop-i-init : goal.loop-i-init
loop-i-init c = refl

pub returns-then-not-same_term : goal.returns-then-not-same_term
returns-then-not-same_term c =
    same_stop c.args.left.now c.args.right.now c.args.n c.args.m c.loop-i.i c.requires.0 c.requires.1 c.if-n-m.false c.loop-i.invariant c.same_term.result (omega arith) c.same_term.ensures c.if-not-same_term.true

pub loop-i-preserved : goal.loop-i-preserved
loop-i-preserved c =
    same_more c.args.left.now c.args.right.now c.args.n c.args.m c.loop-i.i c.requires.0 c.requires.1 c.if-n-m.false c.loop-i.invariant c.same_term.result (omega arith) c.same_term.ensures c.if-not-same_term.false

pub returns : goal.returns
returns c =
    same_end c.args.left.now c.args.right.now c.args.n c.args.m c.loop-i.i c.requires.0 c.requires.1 c.if-n-m.false c.loop-i.invariant (omega arith)
