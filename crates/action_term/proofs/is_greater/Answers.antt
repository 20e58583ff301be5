use Rattle.spec.specs.Pool.{structural_cmp}
use Rattle.std.specs.Ordering.{is_gt}
use Rattle.std.specs.declared.cmp.Ordering.{Ordering}
use Rattle.terms.specs.Buffers.{pool_of, count_in}
use Rattle.action_term.specs.SortLaws.{gt-greater}
use Rattle.terms.specs.PoolLaws.{pool-length}
use mathlib.Core.Path.{ap, ◌∙◌}
use Rattle.action_term.proofs.is_greater.Goals as goal

pub returns : goal.returns
returns c =
    let a = c.args in
    rw (pool-length a.terms.now a.runs.now) (c.is_gt.ensures ∙ ap (λ (z : Ordering). is_gt z) c.structural_cmp.ensures ∙ gt-greater (structural_cmp (count_in a.terms.now) (pool_of a.terms.now a.runs.now) a.a a.b))
