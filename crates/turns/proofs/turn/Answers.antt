use Rattle.spec.specs.Image.{tables_of}
use Rattle.query.specs.Settings.{limits_of}
use Rattle.image.specs.Loaded.{classes-many}
use Rattle.arrays.specs.Arrays.{quality_in, term_in}
use Rattle.arrays.specs.ArrayLaws.{known-low}
use Rattle.best_aligned.specs.Offers.{best-aligns}
use Rattle.turn_term.specs.FinalTermLaws.{joined-low}
use Rattle.turns.specs.TurnLaws.{turn-done, turn-left, turn-fits}
use mathlib.Core.Path.{sym}
use Rattle.turns.proofs.turn.Goals as goal

pub returns : goal.returns
returns c =
    let a = c.args in
    let t = tables_of a.s.now in
    let q = quality_in a.im.classes a.graph.now a.pairs.now in
    let of = term_in a.im.classes a.graph.now a.pairs.now in
    let A = best-aligns c.requires.0 c.requires.1 q c.requires.2 c.requires.3 c.best_aligned-b.ensures in
    let d = turn-done (limits_of a.lim) t q of (a.l, a.r) a.work.now a.flow.now c.best_aligned-b.result _ c.offer_transports.ensures c.requires.5 A in
    let z = turn-fits (limits_of a.lim) t q of (a.l, a.r) a.lim.pairs _ c.offer_transports.result d (known-low a.im.classes a.graph.now a.pairs.now c.requires.4 a.l a.r c.requires.2 c.requires.3)
    (joined-low t c.requires.1 a.im.classes (sym (classes-many a.s.now a.im c.requires.0)) a.graph.now a.pairs.now a.l a.r c.requires.2 c.requires.3 c.requires.4) (c.shared_slice_known-3-1.given _).fits in
    (d, turn-left (limits_of a.lim) t q of (a.l, a.r) a.work.now a.flow.now c.best_aligned-b.result _ c.offer_transports.ensures c.best_aligned-b.ensures, z.0, z.1)
