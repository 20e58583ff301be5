use Rattle.merge_under.specs.Engine.{answer_as}
use Prim.Native.Nat.{◌-◌}
use mathlib.Core.Path.{ap, sym}
use borrow.Author.Rules.{rules}
use Rattle.merge_under.proofs.answer_of.Goals as goal

-- src/lib.rt:267:1
pub returns-in-Listing : goal.returns-in-Listing
returns-in-Listing c = sym (ap answer_as c.in-Listing.is)

-- src/lib.rt:267:1
pub returns-in-Refused : goal.returns-in-Refused
returns-in-Refused c = sym (ap answer_as c.in-Refused.is)
