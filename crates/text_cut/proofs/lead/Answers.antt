use Prim.Native.Nat.{◌-◌, ◌+◌, ◌*◌}
use native.Mathlib.Omega.{arith}
use mathlib.Core.Path.{◌≡◌, refl, sym, ◌∙◌}
use lib.ListN.{drop}
use Rattle.formula.specs.Lexer.{lead}
use Rattle.text_cut.specs.CutLaws.{lead-below, lead-above, lead-turn, lead-end, lead-grows}
use Rattle.text_cut.proofs.lead.Goals as goal

pub loop-i-init : goal.loop-i-init
loop-i-init c = (omega arith, omega arith, refl)

pub returns-then-c-lt48 : goal.returns-then-c-lt48
returns-then-c-lt48 c =
    omega (arith, c.loop-i.invariant.1, c.loop-i.invariant.2, lead-below c.args.text.now c.loop-i.v c.loop-i.i (omega arith) (omega (arith, c.size_u8-c.ensures.0, c.if-c-lt48.true)))

pub returns-then-c-gt57 : goal.returns-then-c-gt57
returns-then-c-gt57 c =
    omega (arith, c.loop-i.invariant.1, c.loop-i.invariant.2, lead-above c.args.text.now c.loop-i.v c.loop-i.i (omega arith) (omega (arith, c.size_u8-c.ensures.0, c.if-c-gt57.true)))

pub returns-then-v-most : goal.returns-then-v-most
returns-then-v-most c =
    let s = c.args.text.now in
    let d = c.size_u8-c in
    let w = c.loop-i.v * 10 + (d.result - 48) in
    let turn : lead c.loop-i.v (drop c.loop-i.i s) ≡ lead w (drop (c.loop-i.i + 1) s) = rw d.ensures.0 (lead-turn s c.loop-i.v c.loop-i.i (omega arith) (omega (arith, d.ensures.0, c.if-c-lt48.false)) (omega (arith, d.ensures.0, c.if-c-gt57.false))) in
    omega (arith, c.loop-i.invariant.2, turn, lead-grows w (drop (c.loop-i.i + 1) s), c.if-v-most.true)

pub loop-i-preserved : goal.loop-i-preserved
loop-i-preserved c =
    let s = c.args.text.now in
    let d = c.size_u8-c in
    let w = c.loop-i.v * 10 + (d.result - 48) in
    let turn : lead c.loop-i.v (drop c.loop-i.i s) ≡ lead w (drop (c.loop-i.i + 1) s) = rw d.ensures.0 (lead-turn s c.loop-i.v c.loop-i.i (omega arith) (omega (arith, d.ensures.0, c.if-c-lt48.false)) (omega (arith, d.ensures.0, c.if-c-gt57.false))) in
    (omega arith, omega (arith, c.if-v-most.false), sym turn ∙ c.loop-i.invariant.2)

pub returns : goal.returns
returns c =
    omega (arith, c.loop-i.invariant.1, c.loop-i.invariant.2, lead-end c.args.text.now c.loop-i.v c.loop-i.i (omega arith))
