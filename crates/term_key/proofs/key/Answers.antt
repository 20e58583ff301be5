use Rattle.term_key.specs.KeyLaws.{key-start, key-turn, key-end}
use Rattle.std.proofs.Common.{◌<◌, arith, get_or-take, length-take-le}
use Rattle.term_key.proofs.key.Goals as goal

pub loop-r-init : goal.loop-r-init
loop-r-init c = let a = c.args in (omega arith, key-start a.list.now a.n c.long_u32.ensures.0 c.long_u32-2.ensures.0)

pub loop-r-preserved : goal.loop-r-preserved
loop-r-preserved c =
    let a = c.args in
    let l = c.loop-r in
    let h : l.r-index < a.n = omega (arith, length-take-le a.n a.list.now c.requires) in
    (c.mix-x.ensures.1, key-turn l.x a.list.now l.r-index a.n h (rw (get_or-take a.n a.list.now l.r-index 0 h) at c.mix-x.ensures.0) l.invariant.1)

pub returns : goal.returns
returns c =
    let a = c.args in
    (key-end c.loop-r.x a.list.now c.loop-r.r-index a.n (omega (arith, length-take-le a.n a.list.now c.requires)) c.folded.ensures.0 c.loop-r.invariant.1, c.folded.ensures.1)
