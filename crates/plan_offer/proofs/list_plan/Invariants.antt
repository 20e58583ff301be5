use Rattle.spec.specs.Action.{cell_pairs}
use Rattle.arrays.specs.Arrays.{term_in}
use Rattle.cells.specs.Cells.{sides_of}
use Rattle.plan_offer.specs.Listing.{Listed}
use Prim.Native.Nat.{◌-◌}
use lib.ListN.{length}
use Rattle.plan_offer.proofs.list_plan.Given as goal

abbrev pub invariant-loop-k : goal.invariant-loop-k
invariant-loop-k l = Listed (term_in l.w l.graph l.pairs) (cell_pairs (sides_of l.left l.rows l.right l.cols)) l.x l.initial.list l.k l.m l.list
