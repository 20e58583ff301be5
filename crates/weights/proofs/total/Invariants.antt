use Rattle.spec.specs.Bytes.{sum}
use lib.ListN.{drop}
use Prim.Native.Nat.{◌≤◌, ◌+◌, ◌*◌, ◌^◌}
use mathlib.Core.Path.{◌≡◌}
use Rattle.weights.proofs.total.Given as goal

abbrev pub invariant-loop-x : goal.invariant-loop-x
invariant-loop-x l = (l.t + sum (drop l.x-index l.s) ≡ sum l.s) × (l.t ≤ l.x-index * 2 ^ 32)
