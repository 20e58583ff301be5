use Rattle.spec.specs.Bytes.{sum_to}
use Prim.Native.Nat.{◌≤◌, ◌+◌, ◌*◌, ◌^◌}
use mathlib.Core.Path.{◌≡◌}
use lib.ListN.{get_or}
use Rattle.augment.proofs.sum_every.Given as goal

abbrev pub invariant-loop-i : goal.invariant-loop-i
invariant-loop-i l = (l.i ≤ l.n) × (l.at ≡ l.k + l.i * l.d) × (l.s ≡ sum_to l.i (λ j. get_or l.flow (l.k + j * l.d) 0)) × (l.s ≤ l.i * 2 ^ 32)
