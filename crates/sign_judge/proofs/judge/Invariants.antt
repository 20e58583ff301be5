use Rattle.laws.specs.Buffers.{Filled}
use Rattle.formula.specs.Card.{bindings}
use Prim.Native.Nat.{◌≤◌}
use Rattle.sign_judge.proofs.judge.Given as goal

abbrev pub invariant-loop-o : goal.invariant-loop-o
invariant-loop-o l = (l.o ≤ 64) × Filled (bindings l.table) l.initial.binds l.o l.binds
