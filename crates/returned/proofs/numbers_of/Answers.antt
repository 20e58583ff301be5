use mathlib.Core.Path.{ap, sym}
use Rattle.returned.specs.Returns.{returned_of}
use Rattle.returned.proofs.numbers_of.Goals as goal

pub returns-in-Listing : goal.returns-in-Listing
returns-in-Listing c = sym (ap returned_of c.in-Listing.is)

pub returns-in-Refused : goal.returns-in-Refused
returns-in-Refused c = sym (ap returned_of c.in-Refused.is)

pub returns-in-Doubled : goal.returns-in-Doubled
returns-in-Doubled c = sym (ap returned_of c.in-Doubled.is)
