use Rattle.skipped_pairs.proofs.Choices.{counts-no, counts-over}
use Rattle.skipped_pairs.specs.Held.{facts_in}
use Rattle.std.proofs.Common.{◌∙◌}
use Rattle.skipped_pairs.proofs.is_counted.Goals as goal

pub returns-then-is_over : goal.returns-then-is_over
returns-then-is_over c =
    counts-over c.args.id (facts_in c.args.f.now) (facts_in c.args.g.now) c.args.n c.args.i c.args.j c.is_over.result c.is_over.ensures c.again.result c.if-is_over.true c.again.ensures

pub returns-else-is_over : goal.returns-else-is_over
returns-else-is_over c =
    c.if-is_over.false ∙ counts-no c.args.id (facts_in c.args.f.now) (facts_in c.args.g.now) c.args.n c.args.i c.args.j c.is_over.result c.is_over.ensures c.if-is_over.false
