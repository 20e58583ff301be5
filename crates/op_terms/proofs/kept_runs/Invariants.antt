use Rattle.spec.specs.Image.{tables_of}
use Rattle.image.specs.Loaded.{the_child}
use Rattle.op_terms.specs.Members.{kept_number}
use Prim.Native.Nat.{ℕ, ◌≤◌, ◌<◌, ◌+◌, ◌^◌}
use mathlib.Core.Path.{◌≡◌}
use lib.ListN.{length, get_or}
use Rattle.op_terms.proofs.kept_runs.Given as goal

abbrev pub invariant-loop-i : goal.invariant-loop-i
invariant-loop-i l = (l.i ≤ l.n) × (length l.list ≡ length l.initial.list) × ((j : ℕ) → j < l.i → (get_or l.list j 0 ≡ kept_number l.best (the_child (tables_of l.s) (l.k + j))) × (get_or l.list j 0 < 2 ^ 47))
