use mathlib.Core.Path.{ap, sym, ◌∙◌}
use Prim.Native.Nat.{◌<◌, ◌^◌}
use native.Mathlib.Omega.{arith}
use Rattle.spec.specs.Round.{better}
use Rattle.spec.specs.Bytes.{Two}
use Rattle.plan_offer.specs.Better.{high-not, low-not, words-one, better-words, false-true}
use Rattle.plan_offer.proofs.cheaper.Goals as goal

pub returns-then-size-gt0 : goal.returns-then-size-gt0
returns-then-size-gt0 c = let a = c.args in (high-not a.size a.mass a.b.size a.b.mass (omega arith) (omega arith), λ e. false-true e)

pub returns-then-size-before : goal.returns-then-size-before
returns-then-size-before c = let a = c.args in (low-not a.size a.mass a.b.size a.b.mass (omega arith), λ e. false-true e)

pub returns : goal.returns
returns c =
    let a = c.args in
    let e = c.better.ensures ∙ ap (λ (t : Two). better t (a.b.size, a.b.mass)) (sym (words-one a.size a.mass a.b.size a.b.mass (omega arith) (omega arith) c.requires)) in
    let x : a.b.size < 2 ^ 64 = omega arith in
    (e, λ f. better-words a.size a.mass a.b.size a.b.mass (sym e ∙ f) x c.requires)
