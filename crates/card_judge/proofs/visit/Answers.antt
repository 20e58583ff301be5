use native.Mathlib.Omega.{arith}
use Rattle.card_judge.specs.JudgeLaws.{visit-none, visit-some}
use Rattle.card_forms.specs.RunLaws.{runs-rise, runs-within, runs-few, child-lower}
use Rattle.card_judge.proofs.visit.Goals as goal

pub returns-then-marks-c-eq0 : goal.returns-then-marks-c-eq0
returns-then-marks-c-eq0 c =
    let a = c.args in
    visit-none a.binds.now a.terms.now a.runs.now a.marks.now a.c c.if-marks-c-eq0.true

pub mark_children-requires : goal.mark_children-requires
mark_children-requires c =
    let a = c.args in
    (runs-rise a.terms.now a.runs.now c.requires.0 a.c c.requires.1 c.first.ensures.0 c.first-2.ensures.0, runs-within a.terms.now a.runs.now c.requires.0 a.c c.requires.1 c.first.ensures.0 c.first-2.ensures.0, runs-few a.terms.now a.runs.now c.requires.0 a.c c.requires.1 c.first.ensures.0 c.first-2.ensures.0, λ i h k. omega (arith, child-lower a.terms.now a.runs.now c.requires.0 a.c c.requires.1 c.first.ensures.0 c.first-2.ensures.0 i h k, c.requires.1, c.requires.2))

pub returns : goal.returns
returns c =
    let a = c.args in
    visit-some a.binds.now a.terms.now a.runs.now a.marks.now a.c c.if-marks-c-eq0.false c.first.ensures.0 c.first-2.ensures.0 c.head.ensures c.is_bound.ensures c.mark_children.ensures
