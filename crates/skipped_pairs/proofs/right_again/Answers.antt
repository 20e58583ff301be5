use Rattle.skipped_pairs.proofs.Choices.{right-even, right-uneven}
use Rattle.skipped_pairs.proofs.right_again.Goals as goal

pub returns-then-total_at-x : goal.returns-then-total_at-x
returns-then-total_at-x c = right-even _ _ _ c.total_at.ensures _ _ _ c.if-total_at-x.true c.kin_within.ensures

pub returns-else-total_at-x : goal.returns-else-total_at-x
returns-else-total_at-x c = right-uneven _ _ _ c.total_at.ensures _ _ _ c.if-total_at-x.false c.kin_with.ensures
