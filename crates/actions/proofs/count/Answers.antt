use Rattle.actions.proofs.Readers.{left-member, action-count}
use native.Mathlib.Omega.{arith}
use Rattle.actions.proofs.count.Goals as goal

pub child_count-requires : goal.child_count-requires
child_count-requires c = (c.requires.0, omega (arith, left-member c.args.s.now c.args.im c.requires.0 c.requires.1 c.args.v c.requires.2))

pub returns : goal.returns
returns c =
    action-count c.args.s.now c.args.im c.requires.0 c.requires.1 c.args.v c.requires.2 c.child_count.ensures.0
