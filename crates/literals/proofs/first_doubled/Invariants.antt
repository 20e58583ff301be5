use Rattle.laws.specs.Doubled.{doubled_later}
use Rattle.laws.specs.Firsts.{first_from}
use Rattle.spec.specs.Image.{tables_of}
use mathlib.Core.Path.{◌≡◌}
use lib.ListN.{length}
use Rattle.literals.proofs.first_doubled.Given as goal

abbrev pub invariant-loop-c : goal.invariant-loop-c
invariant-loop-c l = first_from (doubled_later (tables_of l.s)) l.c (length (tables_of l.s).classes) ≡ first_from (doubled_later (tables_of l.s)) 0 (length (tables_of l.s).classes)
