use Rattle.changes.specs.Marks.{live_of}
use Rattle.laws.specs.Buffers.{Filled}
use Rattle.spec.specs.Image.{tables_of}
use Rattle.changes.proofs.touch_all.Given as goal

abbrev pub invariant-loop-c : goal.invariant-loop-c
invariant-loop-c l = Filled (live_of (tables_of l.s) l.marks) l.initial.live l.c l.live
