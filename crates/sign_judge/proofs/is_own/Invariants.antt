use Rattle.sign_judge.specs.SignTests.{alone_from}
use Rattle.formula.specs.Card.{own}
use Prim.Native.Nat.{◌≤◌}
use mathlib.Core.Path.{◌≡◌}
use Rattle.sign_judge.proofs.is_own.Given as goal

abbrev pub invariant-loop-q : goal.invariant-loop-q
invariant-loop-q l = (l.q ≤ l.n) × (own l.table l.o ≡ alone_from l.table l.o l.n l.q)
