use Rattle.skipped_pairs.proofs.Scans.{row_more}
use Rattle.skipped_pairs.specs.Held.{facts_in}
use Rattle.spec.specs.Bytes.{sum_to}
use borrow.Author.Rules.{rules}
use native.Mathlib.Omega.{arith}
use mathlib.Core.Path.{◌≡◌}
use Rattle.skipped_pairs.proofs.count_row.Goals as goal

pub loop-j-init : goal.loop-j-init
unfolding sum_to
loop-j-init c = search rules

pub loop-j-preserved : goal.loop-j-preserved
loop-j-preserved c = (
  omega arith,
  row_more c.args.id (facts_in c.args.f.now) (facts_in c.args.g.now) c.args.n c.args.i c.loop-j.j c.loop-j.sum c.one-sum.result c.is_counted.result c.loop-j.invariant.1 c.is_counted.ensures c.one-sum.ensures.0,
  omega arith,
)

pub returns : goal.returns
returns c =
    let e : c.loop-j.j ≡ c.args.n = omega arith in (
      rw e at c.loop-j.invariant.1,
      omega arith,
    )
