use Rattle.joining.specs.JoinLaws.{join-start, join-turn, join-few, join-fits}
use native.Mathlib.Omega.{arith}
use mathlib.Core.Path.{◌≡◌, refl}
use Rattle.joining.proofs.join_runs.Goals as goal

pub loop-i-init : goal.loop-i-init
loop-i-init c = (omega arith, omega arith, refl, join-start c.args.list.now)

pub append-m-requires : goal.append-m-requires
append-m-requires c =
    let a = c.args in
    (omega arith, join-fits a.list.now c.loop-i.list c.loop-i.i c.loop-i.m c.loop-i.invariant.3 c.loop-i.invariant.1 a.n (omega arith) c.requires.1)

pub loop-i-preserved : goal.loop-i-preserved
loop-i-preserved c =
    let a = c.args in
    (omega arith, join-few a.list.now c.loop-i.list c.loop-i.i c.loop-i.m c.loop-i.invariant.3 c.loop-i.invariant.1 _ _ c.append-m.ensures, omega arith, join-turn a.list.now c.loop-i.list c.loop-i.i c.loop-i.m c.loop-i.invariant.3 c.loop-i.invariant.1 _ _ c.append-m.ensures)

pub returns : goal.returns
returns c =
    let e : c.loop-i.i ≡ c.args.n = omega arith in
    rw e at c.loop-i.invariant.3
