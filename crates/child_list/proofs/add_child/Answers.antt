use Rattle.child_list.proofs.Answer.{adds-unlisted, adds-full, adds-overflow, fits-at, adds-held}
use native.Mathlib.Omega.{arith}
use Rattle.child_list.proofs.add_child.Goals as goal

pub returns-then-n-mono : goal.returns-then-n-mono
returns-then-n-mono c =
    adds-unlisted c.args.n c.args.c c.args.k c.args.mono.now (omega arith)

pub place-p-requires : goal.place-p-requires
place-p-requires c = omega arith

pub lacks_place-requires : goal.lacks_place-requires
lacks_place-requires c = omega arith

pub returns-then-lacks_place : goal.returns-then-lacks_place
returns-then-lacks_place c =
    adds-full c.args.n c.args.c c.args.k c.args.mono.now c.if-n-mono.false c.lacks_place.result c.lacks_place.ensures c.if-lacks_place.true

pub returns-then-overflows : goal.returns-then-overflows
returns-then-overflows c =
    adds-overflow c.args.n c.args.c c.args.k c.args.mono.now c.if-n-mono.false c.lacks_place.result c.lacks_place.ensures c.if-lacks_place.false c.overflows.result c.overflows.ensures c.if-overflows.true

pub add_at-requires : goal.add_at-requires
add_at-requires c =
    fits-at c.args.n c.args.c c.args.k c.args.mono.now c.if-n-mono.false c.lacks_place.result c.lacks_place.ensures c.if-lacks_place.false (omega arith) c.overflows.result c.overflows.ensures c.if-overflows.false c.place-p.result c.place-p.ensures.0 c.place-p.ensures.1

pub returns : goal.returns
returns c =
    adds-held c.args.n c.args.c c.args.k c.args.mono.now c.if-n-mono.false c.lacks_place.result c.lacks_place.ensures c.if-lacks_place.false (omega arith) c.overflows.result c.overflows.ensures c.if-overflows.false _ c.add_at.result c.add_at.ensures
