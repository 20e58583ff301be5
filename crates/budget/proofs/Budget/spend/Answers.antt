use mathlib.Core.Path.{◌∙◌}
use Rattle.budget.specs.Checks.{many-one}
use Rattle.budget.proofs.Budget.spend.Goals as goal

pub returns : goal.returns
returns c = c.spend_many.ensures ∙ many-one c.args.self
