use native.Mathlib.Omega.{arith}
use lib.ListN.{length-set}
use Rattle.skipped_under.proofs.put_facts.Goals as goal

pub bounds-f-at-2 : goal.bounds-f-at-2
bounds-f-at-2 c = simp length-set (omega arith)

pub bounds-f-at-3 : goal.bounds-f-at-3
bounds-f-at-3 c = simp length-set (omega arith)
