use Rattle.skipped_under.proofs.Terms.{Alike}
use Rattle.skipped_under.proofs.same.Given as goal

abbrev pub invariant-loop-i : goal.invariant-loop-i
invariant-loop-i l = Alike l.left l.n l.right l.m l.i
