use Rattle.outcome.specs.AnswerLaws.{answer-refused}
use Rattle.outcome.proofs.list_ran.Goals as goal

pub returns-in-Stopped : goal.returns-in-Stopped
returns-in-Stopped c = rw c.in-Stopped.is (answer-refused _ _ c.args.out.now)

pub list_outcome-requires : goal.list_outcome-requires
list_outcome-requires c = rw c.in-Done.is at c.requires

pub returns-in-Done : goal.returns-in-Done
returns-in-Done c = rw c.in-Done.is c.list_outcome.ensures
