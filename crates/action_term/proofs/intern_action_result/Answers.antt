use Rattle.terms.specs.Buffers.{pool_of, count_in}
use Rattle.action_term.specs.ResultLaws.{action-join, action-light, action-valid, action-result}
use Rattle.joining.specs.JoinLaws.{begins-fits}
use Rattle.query.specs.Settings.{limits_of}
use native.Mathlib.Omega.{arith}
use Rattle.action_term.proofs.intern_action_result.Goals as goal

pub join_runs-m-requires : goal.join_runs-m-requires
join_runs-m-requires c =
    let a = c.args in
    (omega (arith, c.requires.1), action-join (pool_of a.terms.now a.runs.now) a.list.now a.n a.commutative _ c.order_children.ensures c.requires.3)

pub intern-requires : goal.intern-requires
intern-requires c =
    let a = c.args in
    (c.requires.0, action-valid (pool_of a.terms.now a.runs.now) a.list.now a.n a.commutative _ c.order_children.ensures _ c.join_runs-m.result c.join_runs-m.ensures (count_in a.terms.now) a.op c.requires.4 c.requires.2, begins-fits c.join_runs-m.ensures, action-light (pool_of a.terms.now a.runs.now) a.list.now a.n a.commutative _ c.order_children.ensures _ c.join_runs-m.result c.join_runs-m.ensures c.requires.3, c.requires.5)

pub returns : goal.returns
returns c =
    let a = c.args in
    action-result (limits_of a.lim) a.terms.now a.runs.now a.list.now a.n a.op a.commutative _ c.order_children.ensures _ c.join_runs-m.result c.join_runs-m.ensures c.requires.4 _ _ c.intern.result c.intern.ensures
