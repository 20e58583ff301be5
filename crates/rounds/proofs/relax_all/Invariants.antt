use Rattle.spec.specs.Image.{tables_of}
use Rattle.query.specs.Settings.{limits_of}
use Rattle.lgg.specs.Pairs.{round_at}
use Rattle.arrays.specs.Arrays.{pairs_in}
use Rattle.rounds.specs.Graphs.{state_in}
use Rattle.rounds.specs.Idling.{Idles}
use Rattle.rounds.specs.Turning.{Turning}
use Prim.Native.Nat.{◌≤◌, ◌-◌}
use mathlib.Core.Path.{◌≡◌}
use lib.ListN.{length}
use Rattle.rounds.proofs.relax_all.Given as goal

abbrev pub invariant-loop-k : goal.invariant-loop-k
invariant-loop-k l = (l.k ≤ l.n) × (length l.pairs ≡ length l.initial.pairs) × (length l.work ≡ length l.initial.work) × (length l.flow ≡ length l.initial.flow) × (length l.terms ≡ length l.initial.terms) × (length l.runs ≡ length l.initial.runs)
    × Turning (limits_of l.lim) (tables_of l.s) (pairs_in l.im.classes l.graph l.n) (state_in l.initial.pairs l.initial.terms l.initial.runs l.n 0 0 0) (round_at (limits_of l.lim) (tables_of l.s) (pairs_in l.im.classes l.graph l.n) (state_in l.initial.pairs l.initial.terms l.initial.runs l.n 0 0 0) l.initial.bud.left) l.pairs l.terms l.runs l.k l.bud.left l.changed
    × Idles (pairs_in l.im.classes l.graph l.n) l.pairs l.llive l.rlive l.k

abbrev pub decreases-loop-k : goal.decreases-loop-k
decreases-loop-k l = l.n - l.k
