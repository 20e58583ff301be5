use Prim.Native.Nat.{◌/◌}
use Prim.Native.Nat.{ℕ, ◌+◌, ◌*◌}
use native.Mathlib.Omega.{arith}
use mathlib.Core.Path.{◌≡◌, ap, ◌∙◌}
use lib.ListN.{get_or}
use Rattle.arrays.proofs.left_at.Goals as goal

pub returns : goal.returns
returns c =
    let a = c.args in
    let e : c.at_u16.result ≡ get_or a.graph.now (a.w * a.w + a.k) 0 = c.at_u16.ensures.0 ∙ ap (λ (x : ℕ). get_or a.graph.now (x + a.k) 0) c.keys.ensures.0 in
    (ap (λ (x : ℕ). x / 256) e, omega (arith, c.at_u16.ensures.1))
