use Rattle.joining.specs.JoinLaws.{append-none, append-same, append-other, append-fits}
use native.Mathlib.Omega.{arith}
use Rattle.joining.proofs.append.Goals as goal

pub returns-then-m-eq0 : goal.returns-then-m-eq0
returns-then-m-eq0 c =
    let a = c.args in
    rw (c.put_u64.ensures, c.if-m-eq0.true) (append-none a.list.now a.x (omega (arith, c.requires.0)))

pub overflow_add-y : goal.overflow_add-y
overflow_add-y c =
    let a = c.args in
    omega (arith, append-fits a.list.now a.x a.m (omega (arith, c.if-m-eq0.false)) c.requires.1)

pub returns-then-y-x : goal.returns-then-y-x
returns-then-y-x c =
    let a = c.args in
    rw c.put_u64-then-y-x.ensures (append-same a.list.now a.x a.m (omega (arith, c.if-m-eq0.false)) (omega (arith, c.requires.0)) c.if-y-x.true)

pub returns : goal.returns
returns c =
    let a = c.args in
    rw c.put_u64-2.ensures (append-other a.list.now a.x a.m (omega (arith, c.if-m-eq0.false)) c.requires.0 c.if-y-x.false)
