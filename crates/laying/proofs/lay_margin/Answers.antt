use mathlib.Core.Path.{◌∙◌}
use native.Mathlib.Omega.{arith}
use Rattle.spec.specs.Monomial.{counts}
use Rattle.monomial_terms.specs.Terms.{held}
use Rattle.laws.specs.Buffers.{filled_none, filled_more, filled-all}
use Rattle.cells.specs.Problem.{counts-length, counts-at, counts-fit}
use Rattle.laying.proofs.lay_margin.Goals as goal

pub loop-i-init : goal.loop-i-init
loop-i-init c = (omega arith, filled_none (counts (held c.args.n c.args.mono.now)) c.args.margin.now)

pub short_u64-requires : goal.short_u64-requires
short_u64-requires c = rw c.count_at.ensures (counts-fit c.args.mono.now c.args.n c.requires.0 c.requires.1 c.requires.2 c.loop-i.i (omega (arith, c.loop-i-test.true)))

pub put_u32-requires : goal.put_u32-requires
put_u32-requires c = omega (arith, c.loop-i.invariant.1.same, c.requires.3, c.requires.1, c.loop-i-test.true)

pub loop-i-preserved : goal.loop-i-preserved
loop-i-preserved c =
    let a = c.args in (
      omega arith,
      rw c.put_u32.ensures (filled_more (counts (held a.n a.mono.now)) a.margin.now c.loop-i.i c.loop-i.margin c.loop-i.invariant.1 c.short_u64.result
          (omega (arith, counts-length a.mono.now a.n c.requires.0 c.requires.1, c.loop-i-test.true)) (omega (arith, c.loop-i.invariant.1.same, c.requires.3, c.requires.1, c.loop-i-test.true))
          (c.short_u64.ensures ∙ c.count_at.ensures ∙ counts-at a.mono.now a.n c.requires.0 c.requires.1 c.loop-i.i (omega (arith, c.loop-i-test.true)))),
    )

pub shape_of-margin : goal.shape_of-margin
shape_of-margin c = c.loop-i.invariant.1.same

pub returns : goal.returns
returns c =
    let a = c.args in
    filled-all (counts (held a.n a.mono.now)) a.margin.now c.loop-i.i c.loop-i.margin c.loop-i.invariant.1 (omega (arith, counts-length a.mono.now a.n c.requires.0 c.requires.1, c.loop-i-test.false))
