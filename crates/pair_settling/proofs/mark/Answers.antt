use Rattle.pair_settling.specs.SettleLaws.{mark-yes, mark-no}
use Rattle.pair_settling.specs.Settling.{left}
use Prim.Native.Nat.{ℕ, ◌-◌}
use mathlib.Core.Path.{ap, ◌∙◌}
use lib.ListN.{set}
use borrow.Author.Rules.{rules}
use Rattle.pair_settling.proofs.mark.Goals as goal

pub returns-then-changed : goal.returns-then-changed
returns-then-changed c =
    let a = c.args in
    (ap (λ (x : ℕ). set a.lmarks.now x 1) c.left_at-l.ensures.0 ∙ mark-yes a.changed a.lmarks.now _ c.if-changed.true, ap (λ (x : ℕ). set a.rmarks.now x 1) c.right_at-r.ensures.0 ∙ mark-yes a.changed a.rmarks.now _ c.if-changed.true)

pub returns-else-changed : goal.returns-else-changed
returns-else-changed c =
    let a = c.args in
    (mark-no a.changed a.lmarks.now _ c.if-changed.false, mark-no a.changed a.rmarks.now _ c.if-changed.false)
