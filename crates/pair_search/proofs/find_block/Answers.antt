use Rattle.std.proofs.Common.{◌+◌, ◌∙◌, sym, arith}
use Rattle.pair_search.specs.Search.{seek-to}
use Rattle.pair_search.proofs.find_block.Goals as goal

-- src/lib.rt:70:5
pub loop-i-preserved : goal.loop-i-preserved
loop-i-preserved c = (c.loop-i-test.true, sym (seek-to c.args.table.now (c.args.left, c.args.right) c.args.end c.loop-i.i (c.loop-i.i + 16) (omega arith) c.loop-i-test.true (sym c.any_pair.ensures ∙ c.if-any_pair.false)) ∙ c.loop-i.invariant.1)
