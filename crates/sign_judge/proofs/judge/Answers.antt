use Rattle.sign_judge.specs.SignTests.{bindings-length, bindings-at, bindings-whole}
use Rattle.laws.specs.Buffers.{filled_more, filled-all}
use Rattle.formula.specs.Card.{bindings}
use native.Mathlib.Omega.{arith}
use mathlib.Core.Path.{sym, ◌∙◌}
use Rattle.sign_judge.proofs.judge.Goals as goal

pub loop-o-preserved : goal.loop-o-preserved
loop-o-preserved c =
    let a = c.args in let t = a.table.now in
    (omega arith, filled_more (bindings t) a.binds.now c.loop-o.o c.loop-o.binds c.loop-o.invariant.1 c.binding.result (omega (arith, bindings-length t)) (omega (arith, c.loop-o.invariant.1.same, c.requires)) (c.binding.ensures ∙ sym (bindings-at t c.loop-o.o (omega arith))))

pub returns : goal.returns
returns c =
    let a = c.args in let t = a.table.now in
    filled-all (bindings t) a.binds.now c.loop-o.o c.loop-o.binds c.loop-o.invariant.1 (omega (arith, bindings-length t)) ∙ bindings-whole t a.binds.now c.requires
