use Rattle.prepared.specs.Pairs.{skipped_of}
use mathlib.Core.Path.{ap, sym}
use Rattle.prepared.proofs.skipped_of.Goals as goal

pub returns-in-Stopped : goal.returns-in-Stopped
returns-in-Stopped c = sym (ap skipped_of c.in-Stopped.is)

pub returns-in-Cut : goal.returns-in-Cut
returns-in-Cut c = sym (ap skipped_of c.in-Cut.is)

pub returns-in-All : goal.returns-in-All
returns-in-All c = sym (ap skipped_of c.in-All.is)
