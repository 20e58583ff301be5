use mathlib.Core.Path.{ap, sym}
use Rattle.spec.specs.Run.{limit_of}
use Rattle.query.proofs.limit_of.Goals as goal

pub returns-in-Page : goal.returns-in-Page
returns-in-Page c = sym (ap limit_of c.in-Page.is)

pub returns-in-Desk : goal.returns-in-Desk
returns-in-Desk c = sym (ap limit_of c.in-Desk.is)
