use Rattle.spec.specs.Image.{tables_of}
use Rattle.arrays.specs.Arrays.{quality_in, term_in}
use Rattle.offers.specs.Offers.{work_of}
use Rattle.turns.specs.Walking.{Walking, walk_left}
use mathlib.Core.Path.{◌≡◌}
use lib.ListN.{length}
use Rattle.turns.proofs.offer_transports.Given as goal

abbrev pub invariant-loop-x : goal.invariant-loop-x
invariant-loop-x l = Walking l.lim.pairs (tables_of l.s) (quality_in l.im.classes l.graph l.pairs) (term_in l.im.classes l.graph l.pairs) l.l l.r (work_of l.initial.work l.initial.flow l.initial.best) l.x (work_of l.work l.flow l.best) × (length l.work ≡ length l.initial.work) × (length l.flow ≡ length l.initial.flow)

abbrev pub decreases-loop-x : goal.decreases-loop-x
decreases-loop-x l = walk_left (tables_of l.s) l.l l.r l.x
