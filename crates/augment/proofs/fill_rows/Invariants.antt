use Prim.Native.Nat.{◌≤◌}
use Rattle.augment.specs.Balance.{RowsLeft}
use Rattle.augment.proofs.fill_rows.Given as goal

abbrev pub invariant-loop-i : goal.invariant-loop-i
invariant-loop-i l = (l.i ≤ l.r) × RowsLeft l.r l.c l.supply l.flow l.initial.left l.left l.i
