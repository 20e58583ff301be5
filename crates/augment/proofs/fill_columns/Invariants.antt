use Prim.Native.Nat.{◌≤◌}
use Rattle.augment.specs.Balance.{ColumnsLeft}
use Rattle.augment.proofs.fill_columns.Given as goal

abbrev pub invariant-loop-j : goal.invariant-loop-j
invariant-loop-j l = (l.j ≤ l.c) × ColumnsLeft l.r l.c l.demand l.flow l.left l.j
