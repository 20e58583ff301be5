use Rattle.spec.specs.Image.{tables_of}
use Rattle.query.specs.Settings.{limits_of}
use Rattle.lgg.specs.Pairs.{rounds_of}
use Rattle.arrays.specs.Arrays.{pairs_in, qualities_in}
use Rattle.settling.specs.Quiet.{Quiet}
use Rattle.rounds.specs.Graphs.{state_in}
use Rattle.rounds.specs.Idling.{Idles}
use Rattle.rounds.specs.Running.{Running}
use Prim.Native.Nat.{◌≤◌, ◌+◌}
use mathlib.Core.Path.{◌≡◌}
use lib.ListN.{length}
use Rattle.rounds.proofs.relax.Given as goal

abbrev pub invariant-loop-lim : goal.invariant-loop-lim
invariant-loop-lim l = (length l.pairs ≡ length l.initial.pairs) × (length l.work ≡ length l.initial.work) × (length l.flow ≡ length l.initial.flow) × (length l.terms ≡ length l.initial.terms) × (length l.runs ≡ length l.initial.runs) × (l.rounds + l.bud.left ≤ l.initial.bud.left)
    × Running (limits_of l.lim) (tables_of l.s) (pairs_in l.im.classes l.graph l.n) l.n (rounds_of (limits_of l.lim) (tables_of l.s) (pairs_in l.im.classes l.graph l.n) (state_in l.initial.pairs l.initial.terms l.initial.runs l.n 0 l.initial.bud.left l.budget)) l.pairs l.terms l.runs l.budget l.rounds l.bud.left
    × Quiet (tables_of l.s) (pairs_in l.im.classes l.graph l.n) (qualities_in l.pairs 0 l.n) l.llive l.rlive
    × Idles (pairs_in l.im.classes l.graph l.n) l.pairs l.llive l.rlive 0

abbrev pub decreases-loop-lim : goal.decreases-loop-lim
decreases-loop-lim l = l.bud.left
