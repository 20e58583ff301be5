use Rattle.arrays.specs.Arrays.{quality_in}
use Rattle.best_aligned.specs.Offers.{best-first, best-last, best-next}
use Rattle.enumeration.specs.Remaining.{list_from}
use Rattle.enumeration.specs.SeekLaws.{found-stands, found-fewer}
use Rattle.spec.specs.Image.{tables_of}
use mathlib.Core.Path.{sym, ◌∙◌}
use lib.ListN.{length}
use Rattle.best_aligned.proofs.best_aligned.Goals as goal

pub size_of-requires : goal.size_of-requires
size_of-requires c = (c.requires.4, c.requires.2, c.requires.3)

pub mass_of-requires : goal.mass_of-requires
mass_of-requires c = (c.requires.4, c.requires.2, c.requires.3)

pub loop-v-init : goal.loop-v-init
loop-v-init c =
    best-first c.requires.0 c.requires.1 (quality_in c.args.im.classes c.args.graph.now c.args.pairs.now) c.requires.2 c.requires.3 c.start-w.ensures
    (c.long_u32.ensures.0 ∙ c.size_of.ensures) (c.long_u32-2.ensures.0 ∙ c.mass_of.ensures)

pub returns : goal.returns
returns c =
    sym (best-last c.requires.0 c.requires.1 (quality_in c.args.im.classes c.args.graph.now c.args.pairs.now) c.requires.2 c.requires.3 c.loop-v.w c.loop-v.best c.seek.ensures (length (list_from (tables_of c.args.s.now) c.args.l c.args.r c.loop-v.w)) c.in_default.is) ∙ c.loop-v.invariant

pub offer-best-requires : goal.offer-best-requires
offer-best-requires c =
    (c.requires.0, c.requires.1, found-stands c.requires.0 c.requires.1 c.requires.2 c.requires.3 c.loop-v.w c.seek.ensures _ c.in-Some.is, c.requires.4)

pub after-w-requires : goal.after-w-requires
after-w-requires c =
    (found-stands c.requires.0 c.requires.1 c.requires.2 c.requires.3 c.loop-v.w c.seek.ensures _ c.in-Some.is).few

pub loop-v-smaller : goal.loop-v-smaller
loop-v-smaller c =
    rw c.after-w.ensures (found-fewer c.requires.0 c.requires.1 c.requires.2 c.requires.3 c.loop-v.w c.seek.ensures _ c.in-Some.is)

pub loop-v-preserved : goal.loop-v-preserved
loop-v-preserved c =
    let q = quality_in c.args.im.classes c.args.graph.now c.args.pairs.now in
    sym (best-next c.requires.0 c.requires.1 q c.requires.2 c.requires.3 c.loop-v.w c.loop-v.best c.seek.ensures _ c.in-Some.is c.offer-best.ensures c.after-w.ensures) ∙ c.loop-v.invariant
