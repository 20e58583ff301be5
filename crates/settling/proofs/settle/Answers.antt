use Rattle.pair_settling.specs.SettleLaws.{settled-none, marks-none, settled-differs, settled-more, marks-more}
use Rattle.pair_settling.specs.Settling.{left, right, settled, marks_of}
use Prim.Native.Nat.{ℕ}
use native.Mathlib.Omega.{arith}
use mathlib.Core.Path.{◌≡◌, refl, ap, ◌∙◌}
use Rattle.settling.proofs.settle.Goals as goal

pub loop-k-init : goal.loop-k-init
loop-k-init c =
    let a = c.args in
    (omega arith, settled-none a.pairs.now, marks-none left a.w a.graph.now a.pairs.now a.lmarks.now, marks-none right a.w a.graph.now a.pairs.now a.rmarks.now, refl, refl, refl)

pub loop-k-preserved : goal.loop-k-preserved
loop-k-preserved c =
    let l = c.loop-k in
    let a = c.args in
    let d = settled-differs a.pairs.now l.k l.pairs c.differs-c.result l.invariant.1 c.differs-c.ensures in (
      omega arith,
      settled-more a.pairs.now l.k l.pairs _ l.invariant.1 c.settle_one.ensures,
      marks-more left a.w a.graph.now a.pairs.now a.lmarks.now l.k c.differs-c.result _ l.lmarks _ l.invariant.2 d refl c.mark.ensures.0,
      marks-more right a.w a.graph.now a.pairs.now a.rmarks.now l.k c.differs-c.result _ l.rmarks _ l.invariant.3 d refl c.mark.ensures.1,
      omega (arith, c.settle_one.auto),
      omega (arith, c.mark.auto),
      omega (arith, c.mark.auto),
    )

pub returns : goal.returns
returns c =
    let l = c.loop-k in
    let a = c.args in
    let e : l.k ≡ a.n = omega arith in (
      l.invariant.1 ∙ ap (λ (k : ℕ). settled a.pairs.now k) e,
      l.invariant.2 ∙ ap (λ (k : ℕ). marks_of left a.w a.graph.now a.pairs.now a.lmarks.now k) e,
      l.invariant.3 ∙ ap (λ (k : ℕ). marks_of right a.w a.graph.now a.pairs.now a.rmarks.now k) e,
    )
