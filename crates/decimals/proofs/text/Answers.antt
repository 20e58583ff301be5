use Rattle.decimals.specs.WriteLaws.{wrote-all}
use lib.Seq.{paste-zero, paste-suc}
use Prim.Native.Nat.{suc, ◌+◌}
use native.Mathlib.Omega.{arith}
use mathlib.Core.Path.{◌≡◌, refl}
use lib.ListN.{length-set}
use Rattle.decimals.proofs.text.Goals as goal

pub loop-i-init : goal.loop-i-init
loop-i-init c =
    (omega arith, refl, paste-zero c.args.out.now c.args.at c.args.b.now)

pub loop-i-preserved : goal.loop-i-preserved
loop-i-preserved c =
    let a = c.args in
    let e : c.loop-i.i + 1 ≡ suc c.loop-i.i = omega arith in
    (omega arith, simp length-set (omega arith), rw (c.loop-i.invariant.2, e) (paste-suc a.out.now a.at a.b.now c.loop-i.i 0 (omega arith) (omega arith)))

pub returns : goal.returns
returns c =
    let a = c.args in
    wrote-all a.out.now a.at a.b.now c.loop-i.i (omega arith) c.loop-i.invariant.2
