use Prim.Native.Nat.{◌-◌}
use Rattle.arrays.specs.Arrays.{pairs_in}
use Rattle.graph.specs.Ending.{skipped_from}
use Rattle.graph.specs.TurnLaws.{Turning}
use Rattle.query.specs.Settings.{limits_of}
use Rattle.spec.specs.Graph.{build_from}
use Rattle.spec.specs.Image.{tables_of}
use lib.ListN.{length}
use mathlib.Core.Path.{◌≡◌}
use Rattle.graph.proofs.build_from.Given as goal

abbrev pub invariant-loop-i : goal.invariant-loop-i
invariant-loop-i l =
    Turning (limits_of l.lim) (tables_of l.s) l.im.classes (skipped_from (limits_of l.lim) l.initial.b.left (tables_of l.s) (pairs_in l.im.classes l.initial.graph l.n0) 0)
    (build_from (limits_of l.lim) l.initial.b.left (tables_of l.s) (pairs_in l.im.classes l.initial.graph l.n0) 0) l.b.left l.graph l.n l.skipped l.i
    × (length l.graph ≡ length l.initial.graph)

abbrev pub decreases-loop-i : goal.decreases-loop-i
decreases-loop-i l = 4096 - l.i
