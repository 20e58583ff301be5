use Rattle.arrays.specs.Arrays.{quality_in}
use Rattle.best_aligned.specs.Aligned.{best_from, best_aligned}
use Rattle.enumeration.specs.Remaining.{list_from}
use Rattle.spec.specs.Image.{tables_of}
use mathlib.Core.Path.{◌≡◌}
use lib.ListN.{length}
use Rattle.best_aligned.proofs.best_aligned.Given as goal

abbrev pub invariant-loop-v : goal.invariant-loop-v
invariant-loop-v l = best_from (tables_of l.s) (quality_in l.im.classes l.graph l.pairs) (l.l, l.r) (length (list_from (tables_of l.s) l.l l.r l.w)) l.w l.best ≡ best_aligned (tables_of l.s) (quality_in l.im.classes l.graph l.pairs) (l.l, l.r)

abbrev pub decreases-loop-v : goal.decreases-loop-v
decreases-loop-v l = length (list_from (tables_of l.s) l.l l.r l.w)
