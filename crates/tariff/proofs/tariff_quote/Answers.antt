use borrow.Author.Rules.{rules}
use Rattle.spec.specs.declared.Caller.TheVariants.{Page}
use Rattle.returned.specs.Cases.{returns_as}
use Rattle.tariff.proofs.tariff_quote.Goals as goal

pub returns : goal.returns
returns c =
    let m = c.merge_plain-a.ensures in
    (returns_as Page _ _ _ _ _ _ _ _ _ c.numbers_of.ensures (rw c.asked-q.ensures at m.0), m.1)
