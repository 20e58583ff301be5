use native.Mathlib.Omega.{arith}
use borrow.Author.Rules.{rules}
use Rattle.frames.specs.FrameLaws.{too_long, too_short, by_length}
use Rattle.frames.proofs.is_framed.Goals as goal

pub returns-then-input-gt65536 : goal.returns-then-input-gt65536
returns-then-input-gt65536 c =
    too_long c.args.input.now (omega (arith, c.if-input-gt65536.true))

pub returns-then-input-lt4 : goal.returns-then-input-lt4
returns-then-input-lt4 c =
    too_short c.args.input.now (omega (arith, c.if-input-gt65536.false)) (omega (arith, c.if-input-lt4.true))

pub returns : goal.returns
returns c =
    let s = c.args.input.now in rw c.long_size.ensures (by_length s _ (omega (arith, c.if-input-gt65536.false)) (omega (arith, c.if-input-lt4.false)) (omega (arith, c.be4.ensures.0)))
