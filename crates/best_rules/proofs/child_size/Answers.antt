use Rattle.best_rules.proofs.BestLaws.{product_le}
use Rattle.spec.specs.Image.{tables_of}
use Prim.Native.Nat.{ℕ}
use native.Mathlib.Omega.{arith}
use mathlib.Core.Path.{refl, ap}
use Rattle.best_rules.proofs.child_size.Goals as goal

pub best_size-requires : goal.best_size-requires
best_size-requires c = (c.requires.0, omega (arith, ap (λ (k : ℕ). k) c.child_class.ensures.0, c.requires.2))

pub overflow_mul-result : goal.overflow_mul-result
overflow_mul-result c =
    record { fits = omega (arith, product_le c.child_times.result c.best_size.result (omega arith) (omega arith)) }

pub returns : goal.returns
returns c =
    let t = tables_of c.args.s.now in (
      rw (c.child_times.ensures.0, ← c.child_class.ensures.0, c.best_size.ensures.0) refl,
      product_le c.child_times.result c.best_size.result (omega arith) (omega arith),
    )
