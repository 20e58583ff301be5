use Rattle.spec.specs.Image.{tables_of}
use Rattle.query.specs.Settings.{limits_of}
use Rattle.image.specs.Loaded.{operations-many, classes-many}
use Rattle.arrays.specs.Arrays.{quality_in, term_in}
use Rattle.offers.specs.Offers.{work_of}
use Rattle.turns.specs.TurnLaws.{scratch-kept}
use Rattle.turns.specs.Walking.{all-fitting, walking-first, walking-end, walking-within, walking-sound, walking-next, walking-less}
use native.Mathlib.Omega.{arith}
use mathlib.Core.Path.{refl, sym}
use Rattle.turns.proofs.offer_transports.Goals as goal

pub loop-x-init : goal.loop-x-init
loop-x-init c =
    let a = c.args in (
      walking-first a.lim.pairs (tables_of a.s.now) (quality_in a.im.classes a.graph.now a.pairs.now) (term_in a.im.classes a.graph.now a.pairs.now) a.l a.r (work_of a.work.now a.flow.now a.b) c.first-x.result c.requires.1
          (rw (classes-many a.s.now a.im c.requires.0) c.requires.2) (rw (classes-many a.s.now a.im c.requires.0) c.requires.3) c.first-x.ensures,
      refl,
      refl,
    )

pub returns : goal.returns
returns c =
    let a = c.args in
    walking-end a.lim.pairs (tables_of a.s.now) (quality_in a.im.classes a.graph.now a.pairs.now) (term_in a.im.classes a.graph.now a.pairs.now) a.l a.r (work_of a.work.now a.flow.now a.b) (work_of c.loop-x.work c.loop-x.flow c.loop-x.best) c.loop-x.x c.in_default.is c.loop-x.invariant.0

pub offer_walk-best-requires : goal.offer_walk-best-requires
offer_walk-best-requires c =
    let a = c.args in
    let t = tables_of a.s.now in
    let q = quality_in a.im.classes a.graph.now a.pairs.now in
    let of = term_in a.im.classes a.graph.now a.pairs.now in
    let w = work_of c.loop-x.work c.loop-x.flow c.loop-x.best in (
      c.requires.0,
      c.requires.1,
      c.requires.2,
      c.requires.3,
      rw (← operations-many a.s.now a.im c.requires.0) (walking-within a.lim.pairs t q of a.l a.r (work_of a.work.now a.flow.now a.b) w c.loop-x.x c.in-Some.w c.in-Some.is c.loop-x.invariant.0).0,
      c.requires.4,
      λ d i. all-fitting t c.requires.1 a.im.classes (sym (classes-many a.s.now a.im c.requires.0)) a.l a.r c.requires.2 c.requires.3 (limits_of a.lim) c.requires.5 d
          (walking-sound a.lim.pairs t q of a.l a.r (work_of a.work.now a.flow.now a.b) w c.loop-x.x c.in-Some.w c.in-Some.is c.loop-x.invariant.0 d i),
      scratch-kept c.requires.6 c.loop-x.invariant.1 c.loop-x.invariant.2,
    )

pub next-x-requires : goal.next-x-requires
next-x-requires c =
    let a = c.args in (
      c.requires.0,
      c.requires.1,
      c.requires.2,
      c.requires.3,
      walking-within a.lim.pairs (tables_of a.s.now) (quality_in a.im.classes a.graph.now a.pairs.now) (term_in a.im.classes a.graph.now a.pairs.now) a.l a.r (work_of a.work.now a.flow.now a.b) (work_of c.loop-x.work c.loop-x.flow c.loop-x.best) c.loop-x.x c.in-Some.w c.in-Some.is c.loop-x.invariant.0,
    )

pub loop-x-smaller : goal.loop-x-smaller
loop-x-smaller c =
    let a = c.args in
    walking-less a.lim.pairs (tables_of a.s.now) (quality_in a.im.classes a.graph.now a.pairs.now) (term_in a.im.classes a.graph.now a.pairs.now) a.l a.r (work_of a.work.now a.flow.now a.b) (work_of c.loop-x.work c.loop-x.flow c.loop-x.best) c.loop-x.x c.in-Some.w c.in-Some.is c.loop-x.invariant.0 c.next-x.result c.next-x.ensures

pub loop-x-preserved : goal.loop-x-preserved
loop-x-preserved c =
    let a = c.args in (
      walking-next a.lim.pairs (tables_of a.s.now) (quality_in a.im.classes a.graph.now a.pairs.now) (term_in a.im.classes a.graph.now a.pairs.now) a.l a.r (work_of a.work.now a.flow.now a.b) (work_of c.loop-x.work c.loop-x.flow c.loop-x.best) c.loop-x.x c.in-Some.w c.in-Some.is c.loop-x.invariant.0 c.next-x.result c.next-x.ensures _ c.offer_walk-best.ensures,
      omega (arith, c.loop-x.invariant.1, c.offer_walk-best.auto),
      omega (arith, c.loop-x.invariant.2, c.offer_walk-best.auto),
    )
