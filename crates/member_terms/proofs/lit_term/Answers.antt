use Rattle.query.specs.Settings.{limits_of}
use Rattle.spec.specs.Pool.{lit_node}
use Rattle.terms.specs.Buffers.{count_in}
use Rattle.op_terms.specs.MemberRuns.{lit-node, lit-node-valid, sum-none, gives_of}
use mathlib.Core.Path.{ap, ◌∙◌}
use native.Mathlib.Omega.{arith}
use Rattle.member_terms.proofs.lit_term.Goals as goal

pub intern-requires : goal.intern-requires
intern-requires c =
    let a = c.args in
    (c.requires.0, lit-node-valid (count_in a.terms.now) c.short_size.result a.op c.short_u64.result _ c.short_size.ensures c.requires.1, omega arith, sum-none _, c.requires.3)

pub returns : goal.returns
returns c =
    let a = c.args in
    gives_of (limits_of a.lim) (lit_node a.op a.v) (lit-node c.short_size.result a.op c.short_u64.result _ c.short_size.ensures c.requires.1 ∙ ap (lit_node a.op) c.short_u64.ensures) (omega arith) c.intern.ensures
