use Rattle.card_terms.specs.CloseLaws.{steps-most}
use Rattle.terms.specs.Buffers.{pool_of}
use Rattle.query.specs.Settings.{limits_of}
use Rattle.card_terms.specs.Words.{Reached, Stack, step_on, close_on, words_in}
use Rattle.card_terms.specs.StepLaws.{not_stuck, topped-of, closes-of, then-full, then-stands, then-most, then-not, steps_then}
use native.Mathlib.Omega.{arith}
use mathlib.Core.List.{[]}
use Rattle.card_terms.proofs.close_last.Goals as goal

pub reduce-requires : goal.reduce-requires
unfolding step_on
reduce-requires c =
    let a = c.args in
    let w = words_in a.frames.now a.top in
    (c.requires.0, c.requires.1, topped-of (limits_of a.lim) a.table.now 0 (pool_of a.terms.now a.runs.now) w (not_stuck _ _ c.requires.3), c.requires.2)

pub close-requires : goal.close-requires
unfolding step_on
close-requires c =
    let a = c.args in
    let X = c.reduce.ensures in
    let f : Stack → Reached Stack = λ r. close_on (limits_of a.lim) r.0 r.1 [] in
    (then-stands X f _ c.in_ok-n.was, closes-of (limits_of a.lim) (pool_of c.reduce.new.terms c.reduce.new.runs) (words_in c.reduce.new.frames c.in_ok-n.n) [] (then-not X f _ c.in_ok-n.was c.requires.3), omega (arith, then-most X f _ c.in_ok-n.was, c.requires.2))

pub returns : goal.returns
unfolding step_on
returns c =
    let a = c.args in
    let X = c.reduce.ensures in
    let f : Stack → Reached Stack = λ r. close_on (limits_of a.lim) r.0 r.1 [] in
    steps_then X f _ c.in_ok-n.was (steps-most (then-most X f _ c.in_ok-n.was) c.close.ensures)

pub returns-in_err-n : goal.returns-in_err-n
unfolding step_on
returns-in_err-n c =
    let a = c.args in
    rw c.from_residual.ensures (then-full c.reduce.ensures (λ (r : Stack). close_on (limits_of a.lim) r.0 r.1 []) c.in_err-n.was a.top)
