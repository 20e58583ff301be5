use Rattle.skipped_pairs.proofs.Scans.{in_rows, sum_more, rows_end}
use Rattle.skipped_pairs.specs.Held.{facts_in}
use Rattle.spec.specs.Bytes.{sum_to}
use borrow.Author.Rules.{rules}
use native.Mathlib.Omega.{arith}
use Rattle.skipped_pairs.proofs.count_pairs.Goals as goal

pub loop-i-init : goal.loop-i-init
unfolding sum_to
loop-i-init c = search rules

pub loop-i-preserved : goal.loop-i-preserved
loop-i-preserved c = (
  omega arith,
  sum_more (in_rows c.args.id (facts_in c.args.f.now) (facts_in c.args.g.now) c.args.n) c.loop-i.i c.loop-i.sum c.count_row-sum.result c.loop-i.invariant.1 c.count_row-sum.ensures.0,
  omega arith,
)

pub returns : goal.returns
returns c = (
  rows_end c.args.id (facts_in c.args.f.now) (facts_in c.args.g.now) c.args.m c.args.n c.loop-i.i c.loop-i.sum (omega arith) c.loop-i.invariant.1,
  omega arith,
)
