use Rattle.prepared.specs.Pairs.{pairs_of}
use mathlib.Core.Path.{ap, sym, ◌∙◌}
use Rattle.prepared.proofs.pairs_of.Goals as goal

pub returns-in-Go : goal.returns-in-Go
returns-in-Go c = sym (ap pairs_of c.in-Go.is ∙ sym c.pairs_begun.ensures)
