use borrow.Author.Rules.{rules}
use Rattle.returned.specs.CardCases.{returns-read}
use Rattle.tariff.proofs.tariff_read_card.Goals as goal

pub returns : goal.returns
returns c =
    let m = c.lines_of_card-a.ensures in
    (returns-read _ _ _ _ _ _ _ c.numbers_of_card.ensures m.0, m.1)
