use Rattle.interning.specs.SameLaws.{parts_more, parts-differ, parts_none, parts_all}
use native.Mathlib.Omega.{arith}
use Rattle.interning.proofs.same_runs.Goals as goal

pub loop-i-init : goal.loop-i-init
loop-i-init c = (omega arith, parts_none c.args.runs.now c.args.list.now c.args.from)

pub returns-then-runs-from : goal.returns-then-runs-from
returns-then-runs-from c =
    let a = c.args in
    parts-differ a.runs.now a.list.now a.from a.n c.loop-i.i (omega arith) c.if-runs-from.true

pub loop-i-preserved : goal.loop-i-preserved
loop-i-preserved c =
    let a = c.args in
    (omega arith, parts_more a.runs.now a.list.now a.from c.loop-i.i c.loop-i.invariant.1 c.if-runs-from.false)

pub returns : goal.returns
returns c =
    let a = c.args in
    parts_all a.runs.now a.list.now a.from a.n c.loop-i.i (omega arith) c.loop-i.invariant.1
