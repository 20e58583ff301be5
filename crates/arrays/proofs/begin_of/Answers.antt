use Rattle.arrays.specs.Arrays.{number_in}
use Rattle.arrays.specs.ArrayLaws.{known-below}
use Prim.Native.Nat.{ℕ, ◌*◌}
use native.Mathlib.Omega.{arith}
use mathlib.Core.Path.{◌≡◌, ap, ◌∙◌}
use lib.ListN.{get_or}
use Rattle.arrays.proofs.begin_of.Goals as goal

pub returns : goal.returns
returns c =
    let a = c.args in
    let e : c.at_u16.result ≡ number_in a.w a.graph.now (a.l, a.r) = c.at_u16.ensures.0 ∙ ap (λ (x : ℕ). get_or a.graph.now x 0) c.place.ensures.0 in
    (ap (λ (x : ℕ). 6 * x) e, omega (arith, e, known-below a.w a.graph.now a.pairs.now c.requires.0 a.l a.r c.requires.1 c.requires.2))
