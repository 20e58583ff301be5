use Rattle.image.specs.Entry.{span-is}
use native.Mathlib.Omega.{arith}
use Rattle.members.proofs.children_of.Goals as goal

pub returns : goal.returns
returns c = (span-is c.first_child-from.ensures.0 c.child_count.ensures.0, omega arith)
