use Rattle.narrowing.proofs.Scan.{Upto}
use Rattle.narrowing.proofs.narrow.Given as goal

abbrev pub invariant-loop-i : goal.invariant-loop-i
invariant-loop-i l = Upto l.mono l.n l.i
