use Rattle.net.specs.Net.{unseen_to}
use Prim.Native.Nat.{◌≤◌, ◌-◌}
use mathlib.Core.Path.{◌≡◌}
use Rattle.labels.proofs.unsee.Given as goal

abbrev pub invariant-loop-i : goal.invariant-loop-i
invariant-loop-i l = (l.i ≤ l.n) × (unseen_to (l.n - l.i) l.i l.net ≡ unseen_to l.n 0 l.initial.net)
