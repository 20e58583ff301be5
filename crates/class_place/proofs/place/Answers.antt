use Rattle.class_place.proofs.Scan.{scan-more, scan-stop, scan-end}
use native.Mathlib.Omega.{arith}
use native.Mathlib.Numerals.{add-one}
use Rattle.class_place.proofs.place.Goals as goal

pub returns-then-class_at-c : goal.returns-then-class_at-c
returns-then-class_at-c c =
    omega (arith, scan-stop c.args.c c.args.mono.now c.args.n c.loop-i.i c.class_at.result c.requires (omega arith) c.class_at.ensures (omega arith), c.loop-i.invariant.1)

pub loop-i-preserved : goal.loop-i-preserved
loop-i-preserved c =
    rw add-one
    (omega (arith, scan-more c.args.c c.args.mono.now c.args.n c.loop-i.i c.class_at.result c.requires (omega arith) c.class_at.ensures (omega arith), c.loop-i.invariant.1))

pub returns : goal.returns
returns c =
    omega (arith, scan-end c.args.c c.args.mono.now c.args.n c.loop-i.i c.requires (omega arith), c.loop-i.invariant.1)
