use Rattle.laws.specs.Firsts.{turn-stop, turn_more}
use Rattle.ac_repr.specs.Walk.{has_place}
use Rattle.spec.specs.Image.{tables_of}
use Rattle.ac_repr.proofs.Places.{place_last}
use Prim.Native.Nat.{suc, ◌+◌, ◌≤◌}
use native.Mathlib.Omega.{arith}
use mathlib.Core.Path.{refl}
use Rattle.ac_repr.proofs.next_place.Goals as goal

pub loop-i-init : goal.loop-i-init
loop-i-init c = refl

pub returns-then-has_place : goal.returns-then-has_place
returns-then-has_place c =
    turn-stop (has_place (tables_of c.args.s.now) c.args.end c.args.op) c.args.x (suc c.args.end) c.loop-i.i c.loop-i.invariant c.has_place.result (omega arith) c.has_place.ensures c.if-has_place.true

pub loop-i-preserved : goal.loop-i-preserved
loop-i-preserved c =
    turn_more (has_place (tables_of c.args.s.now) c.args.end c.args.op) c.args.x (suc c.args.end) c.loop-i.i c.loop-i.invariant c.has_place.result (omega arith) c.has_place.ensures c.if-has_place.false

pub returns : goal.returns
returns c =
    let h : c.args.x ≤ c.args.end + 1 → c.loop-i.i ≤ c.args.end + 1 = c.loop-i.auto.i-end in
    place_last (has_place (tables_of c.args.s.now) c.args.end c.args.op) c.args.x (suc c.args.end) c.loop-i.i c.max.result (omega arith) (λ k. omega (arith, h (omega arith))) (omega arith) c.loop-i.invariant
