use Rattle.monomial_terms.specs.TermLaws.{terms-at}
use Rattle.spec.specs.Bytes.{Two}
use native.Mathlib.Omega.{arith}
use mathlib.Core.Path.{ap, sym}
use Rattle.monomial_terms.proofs.class_at.Goals as goal

pub returns : goal.returns
returns c =
    let a = c.args in
    sym (ap (λ (t : Two). t.0) (terms-at a.mono.now a.i (omega arith)))
