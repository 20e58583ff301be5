use Rattle.card_syntax.specs.Reading.{done-by, not-done-fresh, not-done-wanted, not-done-failed}
use Rattle.card_syntax.proofs.is_done.Goals as goal

pub returns-in-Fresh : goal.returns-in-Fresh
returns-in-Fresh c = λ f u X. not-done-fresh f u _ (rw c.in-Fresh.is at X)

pub returns-in-Wanted : goal.returns-in-Wanted
returns-in-Wanted c = λ f u X. not-done-wanted f u _ (rw c.in-Wanted.is at X)

pub returns-in-Done : goal.returns-in-Done
returns-in-Done c = λ f u X. done-by f u c.in-Done.n (rw c.in-Done.is at X)

pub returns-in-Failed : goal.returns-in-Failed
returns-in-Failed c = λ f u X. not-done-failed f u (rw c.in-Failed.is at X)
