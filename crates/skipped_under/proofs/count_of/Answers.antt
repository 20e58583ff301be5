use Rattle.skipped_under.proofs.Terms.{count-stop, count-more, count-end}
use native.Mathlib.Omega.{arith}
use mathlib.Core.Path.{refl}
use Rattle.skipped_under.proofs.count_of.Goals as goal

pub loop-i-init : goal.loop-i-init
loop-i-init c = refl

pub returns-then-class_at-c : goal.returns-then-class_at-c
returns-then-class_at-c c =
    count-stop c.args.mono.now c.args.n c.args.c c.loop-i.i c.requires c.loop-i.invariant c.class_at.result (omega arith) c.class_at.ensures c.term_count.result c.if-class_at-c.true c.term_count.ensures

pub loop-i-preserved : goal.loop-i-preserved
loop-i-preserved c =
    count-more c.args.mono.now c.args.n c.args.c c.loop-i.i c.requires c.loop-i.invariant c.class_at.result (omega arith) c.class_at.ensures c.if-class_at-c.false

pub returns : goal.returns
returns c =
    count-end c.args.mono.now c.args.n c.args.c c.loop-i.i c.requires c.loop-i.invariant (omega arith)
