use Rattle.formula.specs.Card.{prec_of}
use Rattle.card_terms.specs.Reading.{LeftBelow}
use lib.Dec.{leb}
use Rattle.card_terms.specs.ReduceLaws.{few-stops, open-stops, second-stops, top_small, second-known, waits-by}
use Prim.Native.Nat.{◌≤◌, ◌-◌}
use native.Mathlib.Omega.{arith}
use mathlib.Core.Path.{refl, ap, ◌∙◌}
use lib.ListN.{get_or}
use Rattle.card_terms.proofs.waits.Goals as goal

pub returns-then-top-lt2 : goal.returns-then-top-lt2
returns-then-top-lt2 c = let a = c.args in λ lim p. few-stops lim a.table.now a.m p a.frames.now a.top c.if-top-lt2.true c.requires.2

pub returns-then-frames-top-lt16384 : goal.returns-then-frames-top-lt16384
returns-then-frames-top-lt16384 c = let a = c.args in λ lim p. open-stops lim a.table.now a.m p a.frames.now a.top (omega (arith, c.if-top-lt2.false)) c.if-frames-top-lt16384.true

pub returns-then-y-lt32768 : goal.returns-then-y-lt32768
returns-then-y-lt32768 c = let a = c.args in λ lim p. second-stops lim a.table.now a.m p a.frames.now a.top (omega (arith, c.if-top-lt2.false)) c.requires.2 c.if-y-lt32768.true

pub precedence-requires : goal.precedence-requires
precedence-requires c =
    let a = c.args in
    rw c.size_u64.ensures (second-known a.table.now a.frames.now a.top (omega (arith, c.if-top-lt2.false)) c.requires.1 (omega (arith, c.if-y-lt32768.false)))

pub returns : goal.returns
returns c =
    let a = c.args in
    let l = a.frames.now in
    let two : 2 ≤ a.top = omega (arith, c.if-top-lt2.false) in
    let left : 32768 ≤ get_or l (a.top - 2) 0 = omega (arith, c.if-y-lt32768.false) in
    let known = second-known a.table.now l a.top two c.requires.1 left in
    let below : LeftBelow l a.top = record { two = two; term = omega (arith, c.if-frames-top-lt16384.false); small = top_small l a.top (omega arith) c.requires.2; left = left; known = omega arith } in
    waits-by a.table.now a.m l a.top below c.precedence.result (c.precedence.ensures.0 ∙ ap (prec_of a.table.now) c.size_u64.ensures) (leb a.m c.precedence.result) refl
