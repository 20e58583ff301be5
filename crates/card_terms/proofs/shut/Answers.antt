use Rattle.terms.specs.Buffers.{pool_of}
use Rattle.query.specs.Settings.{limits_of}
use Rattle.card_terms.specs.Words.{step_on, shut_on, words_in}
use Rattle.card_terms.specs.StepLaws.{not_stuck, topped-of, then-full, then-stands, then-most, then-not, steps_then, shut-two, shut-steps}
use native.Mathlib.Omega.{arith}
use Rattle.card_terms.proofs.shut.Goals as goal

pub reduce-requires : goal.reduce-requires
unfolding step_on
reduce-requires c =
    let a = c.args in
    let w = words_in a.frames.now a.top in
    (c.requires.0, c.requires.1, topped-of (limits_of a.lim) a.table.now 0 (pool_of a.terms.now a.runs.now) w (not_stuck _ _ c.requires.3), c.requires.2)

pub drop_bracket-requires : goal.drop_bracket-requires
unfolding step_on
drop_bracket-requires c =
    let X = c.reduce.ensures in
    (shut-two _ _ _ (then-not X shut_on _ c.in_ok-n.was c.requires.3), (then-stands X shut_on _ c.in_ok-n.was).inside)

pub overflow_sub-result : goal.overflow_sub-result
unfolding step_on
overflow_sub-result c =
    let X = c.reduce.ensures in
    omega (arith, shut-two _ _ _ (then-not X shut_on _ c.in_ok-n.was c.requires.3))

pub returns : goal.returns
unfolding step_on
returns c =
    let X = c.reduce.ensures in
    let e = c.in_ok-n.was in
    steps_then X shut_on _ e (shut-steps (then-stands X shut_on _ e) (shut-two _ _ _ (then-not X shut_on _ e c.requires.3)) _ c.drop_bracket.ensures c.args.top (then-most X shut_on _ e))

pub returns-in_err-n : goal.returns-in_err-n
unfolding step_on
returns-in_err-n c = rw c.from_residual.ensures (then-full c.reduce.ensures shut_on c.in_err-n.was c.args.top)
