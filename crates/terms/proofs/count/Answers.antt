use borrow.Author.Rules.{rules}
use Rattle.terms.proofs.count.Goals as goal

pub returns : goal.returns
returns c = c.at_u32.ensures
