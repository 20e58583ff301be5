use Rattle.query.specs.Settings.{limits_of}
use mathlib.Core.List.{map}
use Rattle.spec.specs.Image.{tables_of, the_member, children_of}
use Rattle.spec.specs.Pool.{op_node}
use Rattle.image.specs.Loaded.{children-many}
use Rattle.terms.specs.Buffers.{count_in}
use Rattle.op_terms.specs.Members.{kept_run}
use Rattle.joining.specs.JoinLaws.{begins-fits}
use Rattle.op_terms.specs.MemberRuns.{ready, kept-light, kept-valid, joined-light, kept-node, gives_of}
use native.Mathlib.Omega.{arith}
use Rattle.op_terms.proofs.op_term.Goals as goal

pub kept_runs-requires : goal.kept_runs-requires
kept_runs-requires c =
    let a = c.args in
    let k = c.first_child-k.ensures.0 in
    let n = c.child_count-n.ensures.0 in
    (c.requires.1, c.first_child-k.ensures.1, omega (arith, c.requires.4.few), rw (k, n) (ready (tables_of a.s.now) a.best.now (count_in a.terms.now) a.m c.requires.4 c.requires.0.few a.im (children-many a.s.now a.im c.requires.1)))

pub join_runs-j-requires : goal.join_runs-j-requires
join_runs-j-requires c =
    let a = c.args in
    let k = c.first_child-k.ensures.0 in
    let n = c.child_count-n.ensures.0 in
    (omega (arith, c.requires.4.few), rw n (kept-light (tables_of a.s.now) a.best.now (count_in a.terms.now) a.m c.requires.4 c.requires.0.few _ (rw (k, n) at c.kept_runs.ensures)))

pub intern-requires : goal.intern-requires
intern-requires c =
    let a = c.args in
    let k = c.first_child-k.ensures.0 in
    let n = c.child_count-n.ensures.0 in
    (c.requires.0, rw c.short_size.ensures (kept-valid (tables_of a.s.now) a.best.now (count_in a.terms.now) a.m c.requires.4 c.requires.0.few _ (rw (k, n) at c.kept_runs.ensures) _ c.join_runs-j.result (rw n at c.join_runs-j.ensures) a.op c.requires.3), begins-fits c.join_runs-j.ensures, joined-light (tables_of a.s.now) a.best.now (count_in a.terms.now) a.m c.requires.4 c.requires.0.few _ (rw (k, n) at c.kept_runs.ensures) _ c.join_runs-j.result (rw n at c.join_runs-j.ensures), c.requires.5)

pub returns : goal.returns
returns c =
    let a = c.args in
    let k = c.first_child-k.ensures.0 in
    let n = c.child_count-n.ensures.0 in
    gives_of (limits_of a.lim) (op_node a.op (map (kept_run a.best.now) (children_of (tables_of a.s.now) (the_member (tables_of a.s.now) a.m)))) (rw c.short_size.ensures (kept-node (tables_of a.s.now) a.best.now (count_in a.terms.now) a.m c.requires.4 c.requires.0.few _ (rw (k, n) at c.kept_runs.ensures) _ c.join_runs-j.result (rw n at c.join_runs-j.ensures) a.op c.requires.3)) (begins-fits c.join_runs-j.ensures) c.intern.ensures
