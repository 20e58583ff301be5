use Rattle.pair_table.specs.Enter.{outcome-is, put_is}
use Rattle.pair_table.proofs.enter.Goals as goal

-- src/lib.rt:54:1
pub returns : goal.returns
returns c = (rw (c.outcome.ensures, c.find-at.ensures, c.put_in-len.ensures.0) (outcome-is c.args.table.now c.args.count (c.args.left, c.args.right)), rw (c.put_in-len.ensures.1, c.find-at.ensures) (put_is c.args.table.now c.args.count (c.args.left, c.args.right)))
