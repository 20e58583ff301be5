use Rattle.monomial.proofs.Children.{Upto}
use Rattle.spec.specs.Image.{tables_of}
use Rattle.monomial.proofs.of_member.Given as goal

abbrev pub invariant-loop-k : goal.invariant-loop-k
invariant-loop-k l = Upto (tables_of l.s) l.initial.k l.k-end l.initial.mono l.mono l.n l.k
