use Prim.Native.Nat.{◌+◌}
use native.Mathlib.Omega.{arith}
use Rattle.card_forms.specs.RunLaws.{single-test, double-test, other_test}
use Rattle.card_forms.proofs.is_pair.Goals as goal

pub returns-then-to-from-eq1 : goal.returns-then-to-from-eq1
returns-then-to-from-eq1 c =
    single-test c.args.runs.now c.args.from c.args.to c.if-to-from-eq1.true c.times.ensures

pub overflow_add-result : goal.overflow_add-result
overflow_add-result c =
    omega (arith, c.shared_slice_known-then-to-from-eq2-2-1.given (c.args.from + 1), c.shared_slice_known-then-to-from-eq2-1.given c.args.from)

pub returns-then-to-from-eq2 : goal.returns-then-to-from-eq2
returns-then-to-from-eq2 c =
    double-test c.args.runs.now c.args.from c.args.to c.if-to-from-eq2.true c.times-n.ensures c.times-then-to-from-eq2.ensures

pub returns : goal.returns
returns c =
    other_test c.args.runs.now c.args.from c.args.to c.requires.0 c.requires.2 c.if-to-from-eq1.false c.if-to-from-eq2.false
