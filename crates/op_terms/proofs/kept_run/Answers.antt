use native.Mathlib.Omega.{arith}
use Rattle.op_terms.proofs.kept_run.Goals as goal

pub overflow_sub-at_u16 : goal.overflow_sub-at_u16
overflow_sub-at_u16 c =
    let a = c.args in
    let k = rw c.child_class-c.ensures.0 at c.at_u16.ensures.0 in
    omega (arith, c.requires.3)

pub returns : goal.returns
returns c =
    let a = c.args in
    let k = rw c.child_class-c.ensures.0 at c.at_u16.ensures.0 in
    (omega (arith, c.long_size.ensures, c.child_times-n.ensures.0), omega (arith, c.long_size.ensures, c.child_times-n.ensures.1, c.at_u16.ensures.1))
