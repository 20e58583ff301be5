use Rattle.exact_fixed.specs.Starting.{Starting}
use Rattle.best_terms.specs.Bests.{Kept}
use Rattle.terms.specs.Buffers.{pool_of}
use Rattle.arrays.specs.Arrays.{pairs_in}
use Rattle.query.specs.Settings.{limits_of}
use Rattle.spec.specs.Run.{starting_terms}
use Rattle.spec.specs.Image.{tables_of}
use Prim.Native.Nat.{◌≤◌, ◌*◌}
use mathlib.Core.Path.{◌≡◌}
use lib.ListN.{length}
use Rattle.exact_fixed.proofs.start_all.Given as goal

abbrev pub invariant-loop-k : goal.invariant-loop-k
invariant-loop-k l =
    (l.k ≤ l.n) × (6 * l.n ≤ length l.initial.pairs) × (length l.pairs ≡ length l.initial.pairs) × (length l.terms ≡ length l.initial.terms) × (length l.runs ≡ length l.initial.runs) × (length l.best ≡ 256) × Kept (limits_of l.lim) (tables_of l.s) (pool_of l.terms l.runs) l.best
    × Starting (limits_of l.lim) (tables_of l.s) (pairs_in l.im.classes l.graph l.n) (starting_terms (limits_of l.lim) (tables_of l.s) (pairs_in l.im.classes l.graph l.n) l.initial.bud.left (pool_of l.initial.terms l.initial.runs)) (pool_of l.initial.terms l.initial.runs) l.pairs l.terms l.runs l.k l.bud.left
