use mathlib.Core.Path.{ap, sym}
use Rattle.returned.specs.Cards.{card_numbers}
use Rattle.returned.proofs.numbers_of_card.Goals as goal

pub returns-in-Text : goal.returns-in-Text
returns-in-Text c = sym (ap card_numbers c.in-Text.is)

pub returns-in-Refused : goal.returns-in-Refused
returns-in-Refused c = sym (ap card_numbers c.in-Refused.is)
