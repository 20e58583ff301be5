use borrow.Author.Rules.{rules}
use Rattle.second_run.proofs.limits_of.Goals as goal

pub returns : goal.returns
returns c = c.limits_for.ensures
