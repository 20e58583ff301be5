use Rattle.skipped_under.proofs.Terms.{count-here, count-not}
use Rattle.skipped_under.proofs.term_count.Goals as goal

pub returns-then-class_at-c : goal.returns-then-class_at-c
returns-then-class_at-c c = count-here _ _ _ c.class_at.ensures _ c.if-class_at-c.true c.count_at.ensures

pub returns-else-class_at-c : goal.returns-else-class_at-c
returns-else-class_at-c c = count-not _ _ _ c.class_at.ensures c.if-class_at-c.false
