use Rattle.image.specs.Entry.{span-is}
use native.Mathlib.Omega.{arith}
use Rattle.classes.proofs.members_of.Goals as goal

pub returns : goal.returns
returns c = (span-is c.first_member-from.ensures.0 c.member_count.ensures.0, omega arith)
