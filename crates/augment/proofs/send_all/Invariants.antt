use Rattle.augment.proofs.SendLoop.{Sending}
use Rattle.augment.specs.Sending.{Start}
use lib.ListN.{length, drop}
use Prim.Native.Nat.{◌*◌}
use mathlib.Core.Path.{◌≡◌}
use Rattle.net.specs.Net.{NODES, NET}
use Rattle.search_laws.specs.Edges.{MARGINS}
use Rattle.augment.proofs.send_all.Given as goal

abbrev pub invariant-loop-rest : goal.invariant-loop-rest
invariant-loop-rest l = (length l.flow ≡ length l.initial.flow) × (length l.left ≡ MARGINS) × (length l.net ≡ NET) × (length l.path ≡ NODES) × ((S : Start (length l.supply) (length l.demand) l.supply l.demand l.costs l.initial.flow) → Sending S l.rest l.flow) × (drop (length l.supply * length l.demand) l.flow ≡ drop (length l.supply * length l.demand) l.initial.flow)

abbrev pub decreases-loop-rest : goal.decreases-loop-rest
decreases-loop-rest l = l.rest
