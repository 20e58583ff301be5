use Rattle.skipped_pairs.proofs.Choices.{again-left, again-right}
use Rattle.skipped_pairs.specs.Held.{facts_in}
use Rattle.std.proofs.Common.{◌∙◌}
use Rattle.skipped_pairs.proofs.again.Goals as goal

pub returns-then-left_again : goal.returns-then-left_again
returns-then-left_again c =
    c.if-left_again.true ∙ again-left (facts_in c.args.f.now) (facts_in c.args.g.now) c.args.n c.args.i c.args.j c.common-x.result c.common-x.ensures c.left_again.result c.left_again.ensures c.if-left_again.true

pub returns-else-left_again : goal.returns-else-left_again
returns-else-left_again c =
    again-right (facts_in c.args.f.now) (facts_in c.args.g.now) c.args.n c.args.i c.args.j c.common-x.result c.common-x.ensures c.left_again.result c.left_again.ensures c.right_again.result c.if-left_again.false c.right_again.ensures
