use Prim.Native.Nat.{ℕ}
use mathlib.Core.Path.{ap}
use Rattle.spec.specs.Bytes.{Limits}
use Rattle.query.proofs.limits_for.Goals as goal

pub returns : goal.returns
returns c = ap {B = Limits} (λ (n : ℕ). record { pairs = n; terms = 16384; runs = 65536 }) c.limit_of.ensures
