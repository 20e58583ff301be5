use Rattle.monomial_terms.specs.TermLaws.{terms-set, rest-set}
use native.Mathlib.Omega.{arith}
use lib.ListN.{length-set}
use Rattle.child_list.proofs.put_term.Goals as goal

pub bounds-mono-at-2 : goal.bounds-mono-at-2
bounds-mono-at-2 c = simp length-set (omega arith)

pub returns : goal.returns
returns c = let a = c.args in (terms-set a.mono.now a.i a.c a.k (omega arith), rest-set a.mono.now a.i a.c a.k (omega arith))
