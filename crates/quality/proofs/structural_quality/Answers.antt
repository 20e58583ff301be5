use Rattle.arrays.specs.Arrays.{quality_in}
use Rattle.quality.specs.Sums.{summed-none, summed-more, summed-all}
use Rattle.actions.specs.Place.{action_at}
use Rattle.spec.specs.Image.{tables_of}
use native.Mathlib.Omega.{arith}
use mathlib.Core.Path.{◌∙◌}
use Rattle.quality.proofs.structural_quality.Goals as goal

pub loop-k-init : goal.loop-k-init
loop-k-init c =
    summed-none (quality_in c.args.im.classes c.args.graph.now c.args.pairs.now) (action_at (tables_of c.args.s.now) c.args.v).pairs

pub left_class-l-requires : goal.left_class-l-requires
left_class-l-requires c = (c.requires.0, c.requires.1, c.requires.2, omega (arith, c.loop-k-test.true, c.count-m.ensures.0))

pub right_class-r-requires : goal.right_class-r-requires
right_class-r-requires c = (c.requires.0, c.requires.1, c.requires.2, omega (arith, c.loop-k-test.true, c.count-m.ensures.0))

pub mass_of-requires : goal.mass_of-requires
mass_of-requires c = (c.requires.3, c.left_class-l.ensures.1, c.right_class-r.ensures.1)

pub loop-k-preserved : goal.loop-k-preserved
loop-k-preserved c =
    summed-more (quality_in c.args.im.classes c.args.graph.now c.args.pairs.now) (action_at (tables_of c.args.s.now) c.args.v).pairs c.loop-k.k c.loop-k.size c.loop-k.mass c.loop-k.invariant (omega (arith, c.loop-k-test.true, c.count-m.ensures.0)) _ _ _ _
    c.left_class-l.ensures.0 c.right_class-r.ensures.0 (c.long_u32-size.ensures.0 ∙ c.size_of.ensures) (c.long_u32-mass.ensures.0 ∙ c.mass_of.ensures)
    c.long_u32-size.ensures.1 c.long_u32-mass.ensures.1

pub returns : goal.returns
returns c =
    summed-all (quality_in c.args.im.classes c.args.graph.now c.args.pairs.now) (action_at (tables_of c.args.s.now) c.args.v) c.loop-k.k c.loop-k.size c.loop-k.mass c.loop-k.invariant
    (omega (arith, c.loop-k-test.false, c.count-m.ensures.0))
