use Rattle.arrays.specs.Arrays.{pairs_in}
use Rattle.live_pairs.specs.Live.{next_live}
use mathlib.Core.Path.{◌≡◌}
use Prim.Native.Nat.{◌≤◌}
use Rattle.live_pairs.proofs.next_live.Given as goal

abbrev pub invariant-loop-j : goal.invariant-loop-j
invariant-loop-j l = (l.j ≤ l.n) × (next_live (pairs_in l.w l.graph l.n) l.llive l.rlive l.k l.n ≡ next_live (pairs_in l.w l.graph l.n) l.llive l.rlive l.j l.n)
