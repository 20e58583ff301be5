use Rattle.monomial_terms.specs.Terms.{held}
use Rattle.skips.specs.Facts.{count_at}
use mathlib.Core.Path.{◌≡◌}
use lib.ListN.{drop}
use Rattle.skipped_under.proofs.count_of.Given as goal

abbrev pub invariant-loop-i : goal.invariant-loop-i
invariant-loop-i l = count_at l.c (drop l.i (held l.n l.mono)) ≡ count_at l.c (held l.n l.mono)
