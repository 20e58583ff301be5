use Rattle.plan_offer.specs.Sums.{add_units, product-fits}
use Prim.Native.Nat.{ℕ}
use mathlib.Core.Path.{ap, ◌∙◌}
use Rattle.plan_offer.proofs.add_units.Goals as goal

pub overflow_mul-x : goal.overflow_mul-x
overflow_mul-x c = record { fits = product-fits c.args.x c.long_u32.result c.requires c.long_u32.ensures.1 }

pub returns : goal.returns
returns c = c.wrapping_add.ensures ∙ ap (λ (y : ℕ). add_units c.args.t c.args.x y) c.long_u32.ensures.0
