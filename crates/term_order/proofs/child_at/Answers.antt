use Rattle.term_order.specs.CompareLaws.{head_at, head-none}
use native.Mathlib.Omega.{arith}
use mathlib.Core.Path.{◌∙◌}
use Rattle.term_order.proofs.child_at.Goals as goal

pub returns-then-i-end : goal.returns-then-i-end
returns-then-i-end c =
    let a = c.args in
    c.child.ensures.0 ∙ head_at a.runs.now a.i a.end (omega arith)

pub returns-else-i-end : goal.returns-else-i-end
returns-else-i-end c =
    let a = c.args in
    head-none a.runs.now a.i a.end (omega arith)
