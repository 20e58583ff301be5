use Rattle.monomial_terms.specs.Terms.{held}
use Rattle.spec.specs.Bytes.{same_twos}
use Rattle.spec.specs.Monomial.{Monomial}
use mathlib.Core.Path.{ap, ◌∙◌}
use Rattle.skipped_under.proofs.is_kin.Goals as goal

pub returns : goal.returns
returns c =
    c.same.ensures ∙ ap (λ (m : Monomial). same_twos (held c.args.n c.args.left.now) m) c.fill-m.ensures.0
