use borrow.Author.Rules.{rules}
use Rattle.terms.proofs.first.Goals as goal

pub returns : goal.returns
returns c = c.at_u32.ensures
