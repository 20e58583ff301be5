use Rattle.prepared.specs.Pairs.{pairs_begun}
use mathlib.Core.Path.{ap, sym}
use Rattle.prepared.proofs.pairs_begun.Goals as goal

pub returns-in-Stopped : goal.returns-in-Stopped
returns-in-Stopped c = sym (ap pairs_begun c.in-Stopped.is)

pub returns-in-Cut : goal.returns-in-Cut
returns-in-Cut c = sym (ap pairs_begun c.in-Cut.is)

pub returns-in-All : goal.returns-in-All
returns-in-All c = sym (ap pairs_begun c.in-All.is)
