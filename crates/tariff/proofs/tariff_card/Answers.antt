use borrow.Author.Rules.{rules}
use Rattle.returned.specs.CardCases.{returns-card}
use Rattle.tariff.proofs.tariff_card.Goals as goal

pub returns : goal.returns
returns c =
    let m = c.card_of_lines-a.ensures in
    (returns-card _ _ _ _ _ _ _ c.numbers_of_card.ensures m.0, m.1)
