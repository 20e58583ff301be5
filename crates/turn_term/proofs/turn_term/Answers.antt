use Rattle.spec.specs.Image.{tables_of}
use Rattle.spec.specs.Round.{of_action, turn_of}
use Rattle.lgg.specs.TurnPlaces.{turn-placed}
use Rattle.query.specs.Settings.{limits_of}
use Rattle.image.specs.Loaded.{operations-many, classes-many}
use Rattle.actions.specs.Place.{action_at}
use Rattle.arrays.specs.Arrays.{quality_in, term_in}
use Rattle.terms.specs.Buffers.{count_in}
use Rattle.action_runs.specs.Runs.{runs_over}
use Rattle.quality.specs.declared.How.TheVariants as H
use Rattle.turn_term.specs.Agreeing.{Chosen, Planned}
use Rattle.turn_term.specs.FinalTermLaws.{choice-below, over-front, act-given, ended-stay, ended-act}
use native.Mathlib.Omega.{arith}
use mathlib.Core.Path.{sym, ◌∙◌}
use Rattle.turn_term.proofs.turn_term.Goals as goal

pub list_action-m-requires : goal.list_action-m-requires
list_action-m-requires c =
    let a = c.args in
    let t = tables_of a.s.now in
    let h : Chosen a.lim.pairs t (term_in a.im.classes a.graph.now a.pairs.now) a.list.now (H.Aligned c.in-Aligned.v) (turn_of t (quality_in a.im.classes a.graph.now a.pairs.now) (a.l, a.r)).choice = rw c.in-Aligned.is at c.requires.9 in
    (c.requires.0, c.requires.1, h.0, c.requires.4, c.requires.6)

pub op-requires : goal.op-requires
op-requires c =
    let a = c.args in
    let t = tables_of a.s.now in
    let h : Chosen a.lim.pairs t (term_in a.im.classes a.graph.now a.pairs.now) a.list.now (H.Aligned c.in-Aligned.v) (turn_of t (quality_in a.im.classes a.graph.now a.pairs.now) (a.l, a.r)).choice = rw c.in-Aligned.is at c.requires.9 in
    (c.requires.0, c.requires.1, h.0)

pub intern_action-requires : goal.intern_action-requires
intern_action-requires c =
    let a = c.args in
    let t = tables_of a.s.now in
    let q = quality_in a.im.classes a.graph.now a.pairs.now in
    let of = term_in a.im.classes a.graph.now a.pairs.now in
    let d = of_action (action_at t c.in-Aligned.v) in
    let h : Chosen a.lim.pairs t of a.list.now (H.Aligned c.in-Aligned.v) (turn_of t q (a.l, a.r)).choice = rw c.in-Aligned.is at c.requires.9 in
    let g = turn-placed t c.requires.1 q (a.l, a.r) d h.1 in
    let below = choice-below t c.requires.1 a.im.classes (sym (classes-many a.s.now a.im c.requires.0)) a.graph.now a.pairs.now a.l a.r c.requires.2 c.requires.3 (count_in a.terms.now) c.requires.5 q d h.1 in (
      c.requires.0,
      c.op.ensures.1,
      omega (arith, c.op.ensures.1, operations-many a.s.now a.im c.requires.0, c.requires.1.counts.few_operations),
      c.requires.7,
      act-given (limits_of a.lim) t of a.terms.now a.runs.now c.requires.7 (of (a.l, a.r)) (turn_of t q (a.l, a.r)).choice a.list.now d h.1 below _ c.list_action-m.ensures.1 c.list_action-m.result c.list_action-m.ensures.0 g.counted g.few,
      c.requires.8,
    )

pub intern_action-requires-in-Plan : goal.intern_action-requires-in-Plan
intern_action-requires-in-Plan c =
    let a = c.args in
    let t = tables_of a.s.now in
    let q = quality_in a.im.classes a.graph.now a.pairs.now in
    let of = term_in a.im.classes a.graph.now a.pairs.now in
    let h : Planned a.lim.pairs of a.list.now c.in-Plan.o c.in-Plan.m (turn_of t q (a.l, a.r)).choice = rw c.in-Plan.is at c.requires.9 in
    let g = turn-placed t c.requires.1 q (a.l, a.r) _ h.is in
    let below = choice-below t c.requires.1 a.im.classes (sym (classes-many a.s.now a.im c.requires.0)) a.graph.now a.pairs.now a.l a.r c.requires.2 c.requires.3 (count_in a.terms.now) c.requires.5 q _ h.is in (
      c.requires.0,
      omega (arith, g.operation, operations-many a.s.now a.im c.requires.0),
      omega (arith, g.operation, c.requires.1.counts.few_operations),
      c.requires.7,
      act-given (limits_of a.lim) t of a.terms.now a.runs.now c.requires.7 (of (a.l, a.r)) (turn_of t q (a.l, a.r)).choice a.list.now _ h.is below a.list.now (over-front a.list.now (runs_over of h.places h.plan) c.in-Plan.m h.runs h.many) c.in-Plan.m h.many g.counted g.few,
      c.requires.8,
    )

pub returns-in-Stay : goal.returns-in-Stay
returns-in-Stay c =
    let a = c.args in
    let t = tables_of a.s.now in
    let of = term_in a.im.classes a.graph.now a.pairs.now in
    ended-stay (limits_of a.lim) t of a.terms.now a.runs.now c.requires.7 (of (a.l, a.r)) (turn_of t (quality_in a.im.classes a.graph.now a.pairs.now) (a.l, a.r)).choice a.list.now (rw c.in-Stay.is at c.requires.9) c.size_u32.result (c.size_u32.ensures.0 ∙ c.term_of.ensures)

pub returns-in-Aligned : goal.returns-in-Aligned
returns-in-Aligned c =
    let a = c.args in
    let t = tables_of a.s.now in
    let q = quality_in a.im.classes a.graph.now a.pairs.now in
    let of = term_in a.im.classes a.graph.now a.pairs.now in
    let d = of_action (action_at t c.in-Aligned.v) in
    let h : Chosen a.lim.pairs t of a.list.now (H.Aligned c.in-Aligned.v) (turn_of t q (a.l, a.r)).choice = rw c.in-Aligned.is at c.requires.9 in
    let below = choice-below t c.requires.1 a.im.classes (sym (classes-many a.s.now a.im c.requires.0)) a.graph.now a.pairs.now a.l a.r c.requires.2 c.requires.3 (count_in a.terms.now) c.requires.5 q d h.1 in
    ended-act (limits_of a.lim) t of a.terms.now a.runs.now c.requires.7 (of (a.l, a.r)) (turn_of t q (a.l, a.r)).choice a.list.now d h.1 below _ c.list_action-m.ensures.1 c.list_action-m.result c.list_action-m.ensures.0 _ _ _ c.intern_action.result (rw c.op.ensures.0 at c.intern_action.ensures)

pub returns-in-Plan : goal.returns-in-Plan
returns-in-Plan c =
    let a = c.args in
    let t = tables_of a.s.now in
    let q = quality_in a.im.classes a.graph.now a.pairs.now in
    let of = term_in a.im.classes a.graph.now a.pairs.now in
    let h : Planned a.lim.pairs of a.list.now c.in-Plan.o c.in-Plan.m (turn_of t q (a.l, a.r)).choice = rw c.in-Plan.is at c.requires.9 in
    let below = choice-below t c.requires.1 a.im.classes (sym (classes-many a.s.now a.im c.requires.0)) a.graph.now a.pairs.now a.l a.r c.requires.2 c.requires.3 (count_in a.terms.now) c.requires.5 q _ h.is in
    ended-act (limits_of a.lim) t of a.terms.now a.runs.now c.requires.7 (of (a.l, a.r)) (turn_of t q (a.l, a.r)).choice a.list.now _ h.is below a.list.now (over-front a.list.now (runs_over of h.places h.plan) c.in-Plan.m h.runs h.many) c.in-Plan.m h.many _ _ _ c.intern_action-in-Plan.result c.intern_action-in-Plan.ensures
