use Rattle.laws.specs.AcceptedLiterals.{is_literal}
use Rattle.spec.specs.Image.{tables_of}
use Rattle.spec.specs.Bytes.{any}
use mathlib.Core.Path.{◌≡◌}
use lib.ListN.{drop}
use Rattle.class_literals.proofs.literal_from.Given as goal

abbrev pub invariant-loop-m : goal.invariant-loop-m
invariant-loop-m l = any (is_literal (tables_of l.s) (l.o, l.v)) (drop l.from (tables_of l.s).members) ≡ any (is_literal (tables_of l.s) (l.o, l.v)) (drop l.m (tables_of l.s).members)
