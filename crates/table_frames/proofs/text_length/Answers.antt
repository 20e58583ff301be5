use Prim.Native.Nat.{◌-◌}
use native.Mathlib.Omega.{arith}
use mathlib.Core.Path.{◌∙◌}
use lib.ListN.{length}
use lib.Seq.{take_all}
use Rattle.table_frames.specs.TableLaws.{ended, open-ended, nothing}
use Rattle.table_frames.proofs.text_length.Goals as goal

pub returns-then-n-eq0 : goal.returns-then-n-eq0
returns-then-n-eq0 c = (omega arith, nothing c.args.text.now (omega arith))

pub returns-then-text-n-eq10 : goal.returns-then-text-n-eq10
returns-then-text-n-eq10 c =
    let s = c.args.text.now in (omega arith, ended (length s - 1) s (omega arith) c.if-text-n-eq10.true)

pub returns : goal.returns
returns c =
    let s = c.args.text.now in (omega arith, take_all (length s) s (omega arith) ∙ open-ended (length s - 1) s (omega arith) c.if-text-n-eq10.false)
