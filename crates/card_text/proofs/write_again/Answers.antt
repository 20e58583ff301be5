use native.Mathlib.Omega.{arith}
use Prim.Native.Nat.{◌-◌}
use mathlib.Core.Path.{◌≡◌, refl}
use lib.ListN.{length-set}
use lib.Seq.{paste-zero}
use Rattle.card_text.specs.CopyLaws.{bytes_at, again-turn, again-end}
use Rattle.card_text.proofs.write_again.Goals as goal

pub loop-i-init : goal.loop-i-init
loop-i-init c =
    let a = c.args in
    (omega arith, refl, paste-zero a.out.now a.at (bytes_at a.out.now a.from a.to))

pub loop-i-preserved : goal.loop-i-preserved
loop-i-preserved c =
    let a = c.args in
    let l = c.loop-i in
    let p = c.requires in
    (omega arith, simp length-set (omega arith), again-turn a.out.now a.at a.from a.to p.0 p.1 p.2 l.i (omega arith) l.invariant.2)

pub returns : goal.returns
returns c =
    let a = c.args in
    let l = c.loop-i in
    let p = c.requires in
    let e : l.i ≡ a.to - a.from = omega arith in
    again-end a.out.now a.at a.from a.to p.0 p.1 p.2 (a.to - a.from) refl (rw e at l.invariant.2)
