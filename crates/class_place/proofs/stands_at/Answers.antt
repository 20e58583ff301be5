use Rattle.class_place.proofs.Scan.{stands_read, stands-past}
use Rattle.class_place.proofs.stands_at.Goals as goal

pub returns-then-p-n : goal.returns-then-p-n
returns-then-p-n c =
    stands_read c.args.c c.args.mono.now c.args.n c.args.p c.requires.0 c.requires.1 c.class_at.result c.if-p-n.true c.class_at.ensures

pub returns : goal.returns
returns c =
    stands-past c.args.c c.args.mono.now c.args.n c.args.p c.requires.0 c.requires.1 c.if-p-n.false
