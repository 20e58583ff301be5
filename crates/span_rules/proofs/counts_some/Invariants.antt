use Rattle.spec.specs.Bytes.{all}
use Rattle.spec.specs.Image.{tables_of}
use lib.Dec.{leb}
use Prim.Native.Nat.{◌≤◌}
use mathlib.Core.Path.{◌≡◌}
use lib.ListN.{drop}
use Rattle.span_rules.proofs.counts_some.Given as goal

abbrev pub invariant-loop-c : goal.invariant-loop-c
invariant-loop-c l = (l.c ≤ l.im.classes) × (all (λ x. leb 1 x.count) (tables_of l.s).classes ≡ all (λ x. leb 1 x.count) (drop l.c (tables_of l.s).classes))
