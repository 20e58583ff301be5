use Rattle.term_entry.specs.CopyLaws.{paste-turn}
use lib.Seq.{paste-zero}
use native.Mathlib.Omega.{arith}
use mathlib.Core.Path.{◌≡◌, refl}
use lib.ListN.{length-set}
use Rattle.term_entry.proofs.copy_runs.Goals as goal

pub loop-i-init : goal.loop-i-init
loop-i-init c = (omega arith, refl, paste-zero c.args.runs.now c.args.from c.args.list.now)

pub loop-i-preserved : goal.loop-i-preserved
loop-i-preserved c =
    let a = c.args in
    (omega arith, simp length-set (omega arith), paste-turn a.runs.now a.list.now a.from c.loop-i.i c.loop-i.runs (omega arith) (omega arith) c.loop-i.invariant.2)

pub returns : goal.returns
returns c =
    let a = c.args in
    let e : c.loop-i.i ≡ a.n = omega arith in
    rw e at c.loop-i.invariant.2
