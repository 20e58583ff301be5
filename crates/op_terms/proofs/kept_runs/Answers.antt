use native.Mathlib.Nat.{not-suc-le-zero}
use Rattle.spec.specs.Image.{tables_of}
use Rattle.image.specs.Loaded.{the_child}
use Rattle.op_terms.specs.Members.{kept_number}
use Rattle.op_terms.specs.MemberRuns.{fill-turn}
use Prim.Native.Nat.{ℕ, ◌<◌, ◌+◌, ◌^◌}
use native.Mathlib.Omega.{arith}
use mathlib.Core.Path.{◌≡◌, refl}
use Rattle.op_terms.proofs.kept_runs.Goals as goal

pub loop-i-init : goal.loop-i-init
loop-i-init c = (omega arith, refl, λ j h. absurd (not-suc-le-zero h))

pub kept_run-requires : goal.kept_run-requires
kept_run-requires c =
    let a = c.args in
    let r = c.requires.3 c.loop-i.i (omega arith) in
    (c.requires.0, r.0, r.1, r.2, r.3)

pub loop-i-preserved : goal.loop-i-preserved
loop-i-preserved c =
    let a = c.args in
    let r = c.kept_run in
    (omega arith, omega arith, rw c.put_u64.ensures (fill-turn (λ (j x : ℕ). (x ≡ kept_number a.best.now (the_child (tables_of a.s.now) (a.k + j))) × (x < 2 ^ 47)) c.loop-i.list c.loop-i.i r.result (omega arith) c.loop-i.invariant.2 (r.ensures.0, r.ensures.1)))

pub returns : goal.returns
returns c =
    λ j h. c.loop-i.invariant.2 j (omega arith)
