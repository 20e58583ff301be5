use Rattle.child_list.proofs.Buffer.{Rippled}
use Rattle.monomial_terms.specs.Terms.{terms, rest}
use Prim.Native.Nat.{◌≤◌, ◌+◌}
use mathlib.Core.Path.{◌≡◌}
use lib.ListN.{length}
use Rattle.child_list.proofs.insert_term.Given as goal

abbrev pub invariant-loop-j : goal.invariant-loop-j
invariant-loop-j l = (l.j ≤ l.n + 1) × (length l.mono ≡ length l.initial.mono) × (rest l.mono ≡ rest l.initial.mono) × Rippled (terms l.initial.mono) (terms l.mono) l.p l.j (l.c, l.k) (l.x, l.y)
