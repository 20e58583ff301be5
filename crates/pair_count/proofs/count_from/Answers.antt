use native.Mathlib.Omega.{arith}
use mathlib.Core.Path.{◌≡◌, ap}
use Prim.Native.Nat.{ℕ, ◌-◌}
use Rattle.pair_count.specs.declared.Count.{Count}
use Rattle.pair_count.proofs.count_from.Goals as goal

pub returns : goal.returns
returns c =
    let e : 0 ≡ c.args.held - c.args.at = omega (arith, c.if-at-held.false) in
    ap (λ (k : ℕ). let r : Count = record { pairs = k } in r) e
