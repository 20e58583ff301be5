use Prim.Native.Nat.{◌+◌}
use native.Mathlib.Omega.{arith}
use Rattle.table_frames.specs.TableLaws.{too_long, too_short, by_length}
use Rattle.table_frames.proofs.is_tabled.Goals as goal

pub returns-then-input-gt65536 : goal.returns-then-input-gt65536
returns-then-input-gt65536 c = too_long c.args.input.now (omega (arith, c.if-input-gt65536.true))

pub returns-then-input-lt4 : goal.returns-then-input-lt4
returns-then-input-lt4 c =
    too_short c.args.input.now (omega (arith, c.if-input-gt65536.false)) (omega (arith, c.if-input-lt4.true))

pub returns : goal.returns
returns c =
    let s = c.args.input.now in
    by_length s (c.be4.result + 4) c.long_size.result (omega (arith, c.if-input-gt65536.false)) (omega (arith, c.if-input-lt4.false)) (omega (arith, c.be4.ensures.0)) c.long_size.ensures
