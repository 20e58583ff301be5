use Rattle.arrays.specs.Arrays.{quality_in}
use Rattle.quality.specs.Sums.{Summed}
use Rattle.actions.specs.Place.{action_at}
use Rattle.spec.specs.Image.{tables_of}
use Rattle.quality.proofs.structural_quality.Given as goal

abbrev pub invariant-loop-k : goal.invariant-loop-k
invariant-loop-k l = Summed (quality_in l.im.classes l.graph l.pairs) (action_at (tables_of l.s) l.v).pairs l.k l.size l.mass
