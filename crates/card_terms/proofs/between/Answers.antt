use Rattle.formula.specs.Card.{left_level, prec_of}
use Rattle.terms.specs.Buffers.{pool_of}
use Rattle.query.specs.Settings.{limits_of}
use Rattle.card_terms.specs.Words.{step_on, turn_left, words_in}
use Rattle.card_terms.specs.StepLaws.{not_stuck, topped-of, then-full, then-stands, then-most, then-not, steps_then, turn-some, turn-steps, level-of}
use native.Mathlib.Omega.{arith}
use mathlib.Core.Path.{◌≡◌, ap, ◌∙◌}
use Rattle.card_terms.proofs.between.Goals as goal

pub precedence-requires : goal.precedence-requires
precedence-requires c = (level-of c.args.table.now c.args.o c.requires.3).known

pub left_level-m-requires : goal.left_level-m-requires
left_level-m-requires c =
    let v = level-of c.args.table.now c.args.o c.requires.3 in
    let e = c.precedence.ensures.0 in
    (omega (arith, v.some), omega (arith, v.most), v.long)

pub reduce-requires : goal.reduce-requires
unfolding step_on
reduce-requires c =
    let a = c.args in
    (c.requires.0, c.requires.1, topped-of (limits_of a.lim) a.table.now (left_level a.table.now (prec_of a.table.now a.o)) (pool_of a.terms.now a.runs.now) (words_in a.frames.now a.top) (not_stuck _ _ c.requires.4), c.requires.2)

pub turn_left-requires : goal.turn_left-requires
unfolding step_on
turn_left-requires c =
    let a = c.args in
    let e : c.left_level-m.result ≡ left_level a.table.now (prec_of a.table.now a.o) = c.left_level-m.ensures ∙ ap (left_level a.table.now) c.precedence.ensures.0 in
    let X = rw e at c.reduce.ensures in
    let q = turn-some a.o _ _ _ (then-not X (turn_left a.o) _ c.in_ok-n.was c.requires.4) in
    (q.0, (then-stands X (turn_left a.o) _ c.in_ok-n.was).inside, q.2, (level-of a.table.now a.o c.requires.3).small)

pub returns : goal.returns
unfolding step_on
returns c =
    let a = c.args in
    let e : c.left_level-m.result ≡ left_level a.table.now (prec_of a.table.now a.o) = c.left_level-m.ensures ∙ ap (left_level a.table.now) c.precedence.ensures.0 in
    let X = rw e at c.reduce.ensures in
    let g = c.in_ok-n.was in
    steps_then X (turn_left a.o) _ g (turn-steps (then-stands X (turn_left a.o) _ g) a.o (turn-some a.o _ _ _ (then-not X (turn_left a.o) _ g c.requires.4)) _ c.turn_left.ensures a.top (then-most X (turn_left a.o) _ g))

pub returns-in_err-n : goal.returns-in_err-n
unfolding step_on
returns-in_err-n c =
    let a = c.args in
    let e : c.left_level-m.result ≡ left_level a.table.now (prec_of a.table.now a.o) = c.left_level-m.ensures ∙ ap (left_level a.table.now) c.precedence.ensures.0 in
    rw c.from_residual.ensures (then-full (rw e at c.reduce.ensures) (turn_left a.o) c.in_err-n.was a.top)
