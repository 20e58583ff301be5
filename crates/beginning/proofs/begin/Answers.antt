use Rattle.beginning.specs.BeginLaws.{begin-refused, begin-full, begin-cut, begin-all}
use Rattle.best_terms.specs.Starting.{kept-none}
use Rattle.terms.specs.Emptying.{emptied-holds}
use Rattle.terms.specs.Chains.{Holds}
use Rattle.query.specs.Settings.{limits_of, asked_of}
use Rattle.spec.specs.Image.{tables_of}
use native.Mathlib.Omega.{arith}
use Rattle.std.specs.Prelude.{Some}
use Rattle.graph.specs.declared.Built.{Built}
use mathlib.Core.Path.{refl, ap, ◌∙◌}
use Rattle.beginning.proofs.begin.Goals as goal

pub empty-requires : goal.empty-requires
empty-requires c = omega (arith, c.requires.4.long)

pub evaluate_generalize_action-e-requires : goal.evaluate_generalize_action-e-requires
evaluate_generalize_action-e-requires c =
    let a = c.args in
    let u = c.requires.4 in
    let h : Holds c.empty.new.terms a.runs.now = rw c.empty.ensures (emptied-holds a.terms.now a.runs.now (omega (arith, u.long))) in
    (h, c.requires.0, c.requires.1, omega (arith, c.requires.2, c.size_u16-l.ensures.0), omega (arith, c.requires.3, c.size_u16-r.ensures.0), refl, kept-none (limits_of a.lim) (tables_of a.s.now) _ 256, record { few = u.few; ends = u.ends; long = omega (arith, u.long, c.empty.auto); roomy = u.roomy })

pub shape_of-terms-in_default : goal.shape_of-terms-in_default
shape_of-terms-in_default c = omega (arith, c.empty.auto, c.evaluate_generalize_action-e.auto)

pub shape_of-runs-in_default : goal.shape_of-runs-in_default
shape_of-runs-in_default c = omega (arith, c.empty.auto, c.evaluate_generalize_action-e.auto)

pub returns-in_default : goal.returns-in_default
returns-in_default c =
    let a = c.args in
    begin-refused (limits_of a.lim) (tables_of a.s.now) (asked_of a.q) a.q.budget a.im.classes a.graph.now a.terms.now a.runs.now _ _ _ _ (omega (arith, c.requires.4.long))
    (rw (c.empty.ensures, c.size_u16-l.ensures.0, c.size_u16-r.ensures.0, c.in_default.is) at c.evaluate_generalize_action-e.ensures)

pub build-requires : goal.build-requires
build-requires c =
    (c.requires.0, c.requires.1, omega (arith, c.requires.2, c.size_u16-l.ensures.0), omega (arith, c.requires.3, c.size_u16-r.ensures.0), c.requires.5, c.requires.6)

pub shape_of-graph-in-None : goal.shape_of-graph-in-None
shape_of-graph-in-None c = omega (arith, c.build.auto)

pub shape_of-terms-in-None : goal.shape_of-terms-in-None
shape_of-terms-in-None c = omega (arith, c.empty.auto, c.evaluate_generalize_action-e.auto)

pub shape_of-runs-in-None : goal.shape_of-runs-in-None
shape_of-runs-in-None c = omega (arith, c.empty.auto, c.evaluate_generalize_action-e.auto)

pub returns-in-None : goal.returns-in-None
returns-in-None c =
    let a = c.args in
    begin-full (limits_of a.lim) (tables_of a.s.now) (asked_of a.q) a.q.budget a.im.classes a.graph.now a.terms.now a.runs.now _ _ _ _ (omega (arith, c.requires.4.long)) _
    (rw (c.empty.ensures, c.size_u16-l.ensures.0, c.size_u16-r.ensures.0, c.in-Some.is) at c.evaluate_generalize_action-e.ensures) _
    (rw (c.size_u16-l.ensures.0, c.size_u16-r.ensures.0, c.in-None.is) at c.build.ensures)

pub shape_of-graph-in-Some-Cut : goal.shape_of-graph-in-Some-Cut
shape_of-graph-in-Some-Cut c = omega (arith, c.build.auto)

pub shape_of-terms-in-Some-Cut : goal.shape_of-terms-in-Some-Cut
shape_of-terms-in-Some-Cut c = omega (arith, c.empty.auto, c.evaluate_generalize_action-e.auto)

pub shape_of-runs-in-Some-Cut : goal.shape_of-runs-in-Some-Cut
shape_of-runs-in-Some-Cut c = omega (arith, c.empty.auto, c.evaluate_generalize_action-e.auto)

pub returns-in-Some-Cut : goal.returns-in-Some-Cut
returns-in-Some-Cut c =
    let a = c.args in
    begin-cut (limits_of a.lim) (tables_of a.s.now) (asked_of a.q) a.q.budget a.im.classes a.graph.now a.terms.now a.runs.now _ _ _ _ (omega (arith, c.requires.4.long)) _
    (rw (c.empty.ensures, c.size_u16-l.ensures.0, c.size_u16-r.ensures.0, c.in-Some.is) at c.evaluate_generalize_action-e.ensures) _ _
    (rw (c.size_u16-l.ensures.0, c.size_u16-r.ensures.0, c.in-Some-Cut.is ∙ ap (λ (z : Built). Some z) c.in-Some-Cut.field-0-is) at c.build.ensures)

pub shape_of-graph-in-Some-All : goal.shape_of-graph-in-Some-All
shape_of-graph-in-Some-All c = omega (arith, c.build.auto)

pub shape_of-terms-in-Some-All : goal.shape_of-terms-in-Some-All
shape_of-terms-in-Some-All c = omega (arith, c.empty.auto, c.evaluate_generalize_action-e.auto)

pub shape_of-runs-in-Some-All : goal.shape_of-runs-in-Some-All
shape_of-runs-in-Some-All c = omega (arith, c.empty.auto, c.evaluate_generalize_action-e.auto)

pub returns-in-Some-All : goal.returns-in-Some-All
returns-in-Some-All c =
    let a = c.args in
    begin-all (limits_of a.lim) (tables_of a.s.now) (asked_of a.q) a.q.budget a.im.classes a.graph.now a.terms.now a.runs.now _ _ _ _ (omega (arith, c.requires.4.long)) _
    (rw (c.empty.ensures, c.size_u16-l.ensures.0, c.size_u16-r.ensures.0, c.in-Some.is) at c.evaluate_generalize_action-e.ensures) _ _ _ _
    (rw (c.size_u16-l.ensures.0, c.size_u16-r.ensures.0, c.in-Some-All.is ∙ ap (λ (z : Built). Some z) c.in-Some-All.field-0-is) at c.build.ensures)
