use borrow.Author.Tests.{ne_eqb}
use Rattle.monomial_terms.specs.Terms.{terms}
use Rattle.skipped_under.proofs.Terms.{term-class, term-count}
use lib.ListN.{get_or}
use Rattle.skipped_under.proofs.same_term.Goals as goal

pub returns-else-class_at : goal.returns-else-class_at
returns-else-class_at c =
    rw (ne_eqb _ _ c.if-class_at.false) (term-class (get_or (terms c.args.left.now) c.args.i (0, 0)) (get_or (terms c.args.right.now) c.args.i (0, 0)) _ _ c.class_at.ensures c.class_at-2.ensures c.if-class_at.false)

pub returns-then-class_at : goal.returns-then-class_at
returns-then-class_at c =
    term-count (get_or (terms c.args.left.now) c.args.i (0, 0)) (get_or (terms c.args.right.now) c.args.i (0, 0)) _ _ c.class_at.ensures c.class_at-2.ensures _ _ c.if-class_at.true c.count_at.ensures c.count_at-then-class_at.ensures
