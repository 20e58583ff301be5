use Rattle.actions.proofs.Readers.{left-member, action-op}
use native.Mathlib.Omega.{arith}
use Rattle.actions.proofs.op.Goals as goal

pub member_op-requires : goal.member_op-requires
member_op-requires c = (c.requires.0, omega (arith, left-member c.args.s.now c.args.im c.requires.0 c.requires.1 c.args.v c.requires.2))

pub returns : goal.returns
returns c =
    action-op c.args.s.now c.args.im c.requires.0 c.requires.1 c.args.v c.requires.2 c.member_op.ensures.0
