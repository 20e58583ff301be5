use Rattle.query.specs.Settings.{limits_of}
use Rattle.spec.specs.Image.{tables_of, best_size}
use Rattle.image.specs.Loaded.{the_child}
use Rattle.best_terms.specs.Building.{Walk, zeros}
use Prim.Native.Nat.{ℕ, ◌<◌, ◌+◌, ◌*◌}
use mathlib.Core.Path.{◌≡◌}
use lib.ListN.{length, get_or}
use Rattle.best_terms.proofs.build_best_term.Given as goal

abbrev pub invariant-loop-i : goal.invariant-loop-i
invariant-loop-i l =
    (l.waiting ≡ l.initial.waiting) × (l.c ≡ l.initial.c) × ((j : ℕ) → j < l.i → 0 < get_or l.best (the_child (tables_of l.s) (l.k + j)).0 0)

abbrev pub invariant-outer : goal.invariant-outer
invariant-outer l =
    Walk (limits_of l.lim) (tables_of l.s) l.initial.terms l.initial.runs l.initial.best l.class l.terms l.runs l.best l.waiting l.c × (length l.best ≡ 256) × (length l.waiting ≡ 256) × (length l.terms ≡ length l.initial.terms) × (length l.runs ≡ length l.initial.runs)

abbrev pub decreases-outer : goal.decreases-outer
decreases-outer l = zeros l.best * 2147483647 + best_size (tables_of l.s) l.c
